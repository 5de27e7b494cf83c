-- Parts, cells, kinds, sets and changes are told by their tests.
use Rattle.std.proofs.Common.{◌≡◌, true, Bool, List, [], ◌∷◌, Option, Some, None, refl, ap, ap₂, sym, true≢false}
use Rattle.std.proofs.lemmas.Bool.{and_parts, and_from}
use Rattle.wg_rows.specs.Runs.{PartRun, BufferPart, LayerParts, QueryPart, Cells, Bytes, Layers, Slices, Queries, part_sort, cell_sort, part_line, part_lo, part_hi, cell_line, cell_lo, cell_hi}
use Rattle.wg_rows.specs.Uses.{Usages, same_set, AccessKind, Read, Write, Both, Drop, ReadDrop, same_kind, AccessesPrinted, UsesPrinted, Change, same_from, same_change, BarsPrinted}
use Rattle.wg_rows.proofs.Runs.{aspect_told, set_told, set_itself, part_widens, cell_widens}
use Rattle.wg_rows.specs.Rows.{Sort, After, Apart, Fits, AllFit}
use Rattle.wg_rows.specs.Laws.{PrintsRows, KeepsPrinted}
use Rattle.wg_rows.proofs.Put.{printed_any}
use Rattle.wg_rows.proofs.Printed.{Tells, printed_unique, printed_apart, respects, each_row_map, no_overlap}

part_told : (a b : PartRun) → part_line a ≡ part_line b → part_lo a ≡ part_lo b → part_hi a ≡ part_hi b → a ≡ b
part_told (BufferPart a) (BufferPart x) e l h = cc
part_told (LayerParts a b c lo hi) (LayerParts x y z lo2 hi2) e l h = let aspects : b ≡ y = aspect_told b y (cc) in cc
part_told (QueryPart a) (QueryPart x) e l h = cc
part_told a b e l h = absurd (cc)

cell_told : (a b : Cells) → cell_line a ≡ cell_line b → cell_lo a ≡ cell_lo b → cell_hi a ≡ cell_hi b → a ≡ b
cell_told (Bytes a lo hi) (Bytes x lo2 hi2) e l h = cc
cell_told (Layers a b c lo hi) (Layers x y z lo2 hi2) e l h = let aspects : b ≡ y = aspect_told b y (cc) in cc
cell_told (Slices a b lo hi) (Slices x y lo2 hi2) e l h = cc
cell_told (Queries a lo hi) (Queries x lo2 hi2) e l h = cc
cell_told a b e l h = absurd (cc)

kind_told : (u v : AccessKind) → same_kind u v ≡ true → u ≡ v
kind_told Read Read e = refl
kind_told Write Write e = refl
kind_told Both Both e = refl
kind_told Drop Drop e = refl
kind_told ReadDrop ReadDrop e = refl
kind_told u v e = absurd (true≢false (sym e))

kind_itself : (v : AccessKind) → same_kind v v ≡ true
kind_itself Read = refl
kind_itself Write = refl
kind_itself Both = refl
kind_itself Drop = refl
kind_itself ReadDrop = refl

from_told : (u v : Option Usages) → same_from u v ≡ true → u ≡ v
from_told None None e = refl
from_told (Some a) (Some b) e = ap Some (set_told a b e)
from_told u v e = absurd (true≢false (sym e))

from_itself : (v : Option Usages) → same_from v v ≡ true
from_itself None = refl
from_itself (Some a) = set_itself a

change_told : (u v : Change) → same_change u v ≡ true → u ≡ v
change_told u v e = let tests : (same_from u.0 v.0 ≡ true) × (same_set u.1 v.1 ≡ true) = and_parts (same_from u.0 v.0) (same_set u.1 v.1) e in ap₂ (λ (o : Option Usages) (s : Usages). (o, s)) (from_told u.0 v.0 tests.0) (set_told u.1 v.1 tests.1)

pub accesses_tell : Tells cell_sort same_kind
accesses_tell = record { widens = cell_widens; run = cell_told; equal = kind_told; itself = kind_itself }

pub uses_tell : Tells part_sort same_set
uses_tell = record { widens = part_widens; run = part_told; equal = set_told; itself = set_itself }

pub changes_tell : Tells part_sort same_change
changes_tell = record { widens = part_widens; run = part_told; equal = change_told; itself = λ v. and_from (same_from v.0 v.0) (same_set v.1 v.1) (from_itself v.0) (set_itself v.1) }

pub accesses_printed : AccessesPrinted
accesses_printed found rows fit apart alike = printed_unique cell_sort same_kind accesses_tell found rows fit apart alike

pub uses_printed : UsesPrinted
uses_printed found rows fit apart alike = printed_unique part_sort same_set uses_tell found rows fit apart alike

pub bars_printed : BarsPrinted
bars_printed found rows fit apart alike = printed_unique part_sort same_change changes_tell found rows fit apart alike

-- Rows as they are printed are in printed form, and have the values of the rows.
pub prints : {R V : Type 0} (sort : Sort R) (same : V → V → Bool) → Tells sort same → PrintsRows sort same
prints sort same tells = record {
  apart = printed_apart sort same tells;
  alike = λ rows spot v. printed_any sort same spot (same v) tells.widens (respects sort same tells v) rows;
}

-- Rows that are apart are printed as they are.
apart_fit : {R V : Type 0} (sort : Sort R) (rows : List (R × V)) → Apart sort rows → AllFit sort rows
apart_fit sort [] apart = tt
apart_fit sort (x ∷ xs) apart = (apart.0, each_row_map (After sort x) (Fits sort x) (λ y after spot e k. absurd (no_overlap sort x y spot after e k)) xs apart.1, apart_fit sort xs apart.2)

pub as_printed : {R V : Type 0} (sort : Sort R) (same : V → V → Bool) → Tells sort same → KeepsPrinted sort same
as_printed sort same tells rows apart = sym (printed_unique sort same tells rows rows (apart_fit sort rows apart) apart (λ spot v. refl))
