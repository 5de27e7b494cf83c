-- What a call over numbers names, over handles, is genuine, and was not dropped.
use Rattle.std.proofs.Common.{◌≡◌, ℕ, Bool, true, false, ◌||◌, List, [], ◌∷◌, map, reverse, Option, Some, None, is_none, slice_get, refl, ap, ap₂, sym, subst, ◌∙◌, true≢false}
use Rattle.std.specs.Prelude.{All, IfSome, option_map, option_and_then, unwrap_or}
use Rattle.std.specs.List.{list_any}
use Rattle.std.proofs.lemmas.Bool.{or_parts}
use Rattle.std.proofs.lemmas.List.Elements.{All-nil, All-cons, All-map}
use Rattle.wg_types.specs.Handles.{HandleValue}
use Rattle.wg_types.specs.Refs.{all_wanted, some_wanted, maybe_wanted}
use Rattle.wg_types.specs.Bindings.{resource_named, map_resource, map_entry, entries_named}
use Rattle.wg_types.specs.Requests.{named, map_refs}
use Rattle.wg_types.specs.declared.bindings.ResourceOf.{ResourceOf}
use Rattle.wg_types.specs.declared.bindings.ResourceOf.TheVariants.{Buffer, View, Sampler}
use Rattle.wg_types.specs.declared.bindings.GroupEntryOf.{GroupEntryOf}
use Rattle.wg_types.specs.declared.requests.RequestOf.{RequestOf}
use Rattle.wg_types.specs.declared.requests.RequestOf.TheVariants.{CreateBuffer, CreateTexture, CreateView, CreateSampler, CreateBindGroupLayout, CreatePipelineLayout, CreateBindGroup, CreateComputePipeline, CreateRenderPipeline, GetBindGroupLayout, CreateQuerySet, CreateEncoder, CreateBundleEncoder, Finish, FinishBundle, Submit, WriteBuffer, WriteTexture, Destroy, Drop, Complete, PushErrorScope, PopErrorScope, Lose, WorkDone, MapAsync, Unmap}
use Rattle.wg_types.specs.declared.wanted.Wanted.{Wanted}
use Rattle.wg_types.specs.declared.wanted.Wanted.TheVariants as wanted
use Rattle.wg_history.specs.declared.events.Setup.{Setup}
use Rattle.wg_history.specs.Entries.{Entry}
use Rattle.wg_history.specs.Rules.{is_dropped, is_genuine}
use Rattle.wg_calls.specs.Calls.{event_asked}
use Rattle.wg_desk.specs.declared.seats.Seat.{Seat}
use Rattle.wg_desk.specs.Seats.{handle_at, found_at, no_object, is_missing, any_missing, AreSeated}
use Rattle.wg_desk.specs.Sent.{dropped_by, dropped_number}
use Rattle.wg_desk.specs.Desks.{names_dropped}

-- the object that stands for a number, with what is wanted of it
abbrev standing : (ℕ → HandleValue) → ℕ × Wanted → HandleValue × Wanted
standing f used = (f used.0, used.1)

all_stand : (f : ℕ → HandleValue) (asked : Wanted) (numbers : List ℕ) → all_wanted asked (map f numbers) ≡ map (standing f) (all_wanted asked numbers)
all_stand f asked [] = refl
all_stand f asked (n ∷ numbers) = ap (λ rest. (f n, asked) ∷ rest) (all_stand f asked numbers)

some_stand : (f : ℕ → HandleValue) (asked : Wanted) (numbers : List (Option ℕ)) → some_wanted asked (map (option_map f) numbers) ≡ map (standing f) (some_wanted asked numbers)
some_stand f asked [] = refl
some_stand f asked (None ∷ numbers) = some_stand f asked numbers
some_stand f asked (Some n ∷ numbers) = ap (λ rest. (f n, asked) ∷ rest) (some_stand f asked numbers)

maybe_stands : (f : ℕ → HandleValue) (asked : Wanted) (number : Option ℕ) → maybe_wanted asked (option_map f number) ≡ map (standing f) (maybe_wanted asked number)
maybe_stands f asked None = refl
maybe_stands f asked (Some n) = refl

resource_stands : (f : ℕ → HandleValue) (resource : ResourceOf ℕ) → resource_named (map_resource f resource) ≡ standing f (resource_named resource)
resource_stands f (Buffer buffer offset size) = refl
resource_stands f (View view) = refl
resource_stands f (Sampler sampler) = refl

entries_stand : (f : ℕ → HandleValue) (entries : List (GroupEntryOf ℕ)) → entries_named (map (map_entry f) entries) ≡ map (standing f) (entries_named entries)
entries_stand f [] = refl
entries_stand f (entry ∷ entries) = ap₂ (λ used rest. used ∷ rest) (resource_stands f entry.resource) (entries_stand f entries)

named_stand : (f : ℕ → HandleValue) (request : RequestOf ℕ) → named (map_refs f request) ≡ map (standing f) (named request)
named_stand f (CreateBuffer made) = refl
named_stand f (CreateTexture made) = refl
named_stand f (CreateView texture asked) = refl
named_stand f (CreateSampler made) = refl
named_stand f (CreateBindGroupLayout entries) = refl
named_stand f (CreatePipelineLayout layouts) = some_stand f wanted.GroupLayout layouts
named_stand f (CreateBindGroup layout entries) = ap (λ rest. (f layout, wanted.GroupLayout) ∷ rest) (entries_stand f entries)
named_stand f (CreateComputePipeline layout iface) = maybe_stands f wanted.PipelineLayout layout
named_stand f (CreateRenderPipeline layout desc) = maybe_stands f wanted.PipelineLayout layout
named_stand f (GetBindGroupLayout pipeline index) = refl
named_stand f (CreateQuerySet made) = refl
named_stand f CreateEncoder = refl
named_stand f (CreateBundleEncoder targets) = refl
named_stand f (Finish encoder) = refl
named_stand f (FinishBundle encoder) = refl
named_stand f (Submit buffers) = all_stand f wanted.CommandBuffer buffers
named_stand f (WriteBuffer buffer offset size) = refl
named_stand f (WriteTexture texture spot layout size data_size) = refl
named_stand f (Destroy object) = refl
named_stand f (Drop object) = refl
named_stand f (Complete op) = refl
named_stand f (PushErrorScope filter) = refl
named_stand f PopErrorScope = refl
named_stand f Lose = refl
named_stand f WorkDone = refl
named_stand f (MapAsync buffer mode offset size) = refl
named_stand f (Unmap buffer) = refl

any_standing : (p : HandleValue × Wanted → Bool) (f : ℕ → HandleValue) (useds : List (ℕ × Wanted)) → list_any p (map (standing f) useds) ≡ list_any (λ (used : ℕ × Wanted). p (f used.0, used.1)) useds
any_standing p f [] = refl
any_standing p f (used ∷ useds) = ap (λ (b : Bool). p (f used.0, used.1) || b) (any_standing p f useds)

module _ (setup : Setup) (history : List Entry) (seats : List Seat) (seated : AreSeated setup history seats) where
  by_handle : (handle : Option HandleValue) → IfSome handle (λ h. is_genuine setup (reverse history) h ≡ true) → is_none handle ≡ false → is_genuine setup (reverse history) (unwrap_or handle no_object) ≡ true
  by_handle None genuine found = absurd (true≢false found)
  by_handle (Some handle) genuine found = genuine

  by_seat : (n : ℕ) (seat : Option Seat) → slice_get seats n ≡ seat → is_none (option_and_then (λ (s : Seat). s.handle) seat) ≡ false
      → is_genuine setup (reverse history) (unwrap_or (option_and_then (λ (s : Seat). s.handle) seat) no_object) ≡ true
  by_seat n None is found = absurd (true≢false found)
  by_seat n (Some seat) is found = by_handle seat.handle (seated.each n seat is).genuine found

  -- The handle at a number is genuine.
  pub found_genuine : (n : ℕ) → is_none (handle_at seats n) ≡ false → is_genuine setup (reverse history) (found_at seats n) ≡ true
  found_genuine n found = by_seat n (slice_get seats n) refl found

  all_found : (useds : List (ℕ × Wanted)) → any_missing seats useds ≡ false → All (λ (used : ℕ × Wanted). is_genuine setup (reverse history) (found_at seats used.0) ≡ true) useds
  all_found [] none = All-nil (λ (used : ℕ × Wanted). is_genuine setup (reverse history) (found_at seats used.0) ≡ true)
  all_found (used ∷ useds) none =
      let parts : (is_missing seats used ≡ false) × (any_missing seats useds ≡ false) = or_parts (is_missing seats used) (any_missing seats useds) none in
      All-cons (λ (u : ℕ × Wanted). is_genuine setup (reverse history) (found_at seats u.0) ≡ true) used useds (found_genuine used.0 parts.0) (all_found useds parts.1)

  -- So are all that a call names none of whose numbers is missing.
  pub named_genuine : (request : RequestOf ℕ) → any_missing seats (named request) ≡ false
      → All (λ (used : HandleValue × Wanted). is_genuine setup (reverse history) used.0 ≡ true) (named (map_refs (found_at seats) request))
  named_genuine request none =
      subst (λ (list : List (HandleValue × Wanted)). All (λ (used : HandleValue × Wanted). is_genuine setup (reverse history) used.0 ≡ true) list) (sym (named_stand (found_at seats) request))
      (All-map (λ (used : HandleValue × Wanted). is_genuine setup (reverse history) used.0 ≡ true) (standing (found_at seats)) (named request) (all_found (named request) none))

  number_of : (n : ℕ) (handle : Option HandleValue) → IfSome handle (λ h. h.reference.number ≡ n) → is_none handle ≡ false → (unwrap_or handle no_object).reference.number ≡ n
  number_of n None number found = absurd (true≢false found)
  number_of n (Some handle) number found = number

  number_in : (n : ℕ) (seat : Option Seat) → slice_get seats n ≡ seat → is_none (option_and_then (λ (s : Seat). s.handle) seat) ≡ false
      → (unwrap_or (option_and_then (λ (s : Seat). s.handle) seat) no_object).reference.number ≡ n
  number_in n None is found = absurd (true≢false found)
  number_in n (Some seat) is found = number_of n seat.handle (seated.each n seat is).number found

  -- The handle at a number is of the object of that number.
  found_number : (n : ℕ) → is_none (handle_at seats n) ≡ false → (found_at seats n).reference.number ≡ n
  found_number n found = number_in n (slice_get seats n) refl found

  undropped_of : (n : ℕ) (handle : Option HandleValue) → IfSome handle (λ _. is_dropped setup (reverse history) n ≡ false) → is_none handle ≡ false → is_dropped setup (reverse history) n ≡ false
  undropped_of n None undropped found = absurd (true≢false found)
  undropped_of n (Some handle) undropped found = undropped

  undropped_in : (n : ℕ) (seat : Option Seat) → slice_get seats n ≡ seat → is_none (option_and_then (λ (s : Seat). s.handle) seat) ≡ false → is_dropped setup (reverse history) n ≡ false
  undropped_in n None is found = absurd (true≢false found)
  undropped_in n (Some seat) is found = undropped_of n seat.handle (seated.each n seat is).undropped found

  -- That object was not dropped.
  found_undropped : (n : ℕ) → is_none (handle_at seats n) ≡ false → is_dropped setup (reverse history) (found_at seats n).reference.number ≡ false
  found_undropped n found = ap (λ (k : ℕ). is_dropped setup (reverse history) k) (found_number n found) ∙ undropped_in n (slice_get seats n) refl found

  all_undropped : (useds : List (ℕ × Wanted)) → any_missing seats useds ≡ false → list_any (λ (used : ℕ × Wanted). is_dropped setup (reverse history) (found_at seats used.0).reference.number) useds ≡ false
  all_undropped [] none = refl
  all_undropped (used ∷ useds) none =
      let parts : (is_missing seats used ≡ false) × (any_missing seats useds ≡ false) = or_parts (is_missing seats used) (any_missing seats useds) none in
      ap₂ (λ (a b : Bool). a || b) (found_undropped used.0 parts.0) (all_undropped useds parts.1)

  -- So was none of those that such a call names.
  pub named_undropped : (request : RequestOf ℕ) → any_missing seats (named request) ≡ false → names_dropped setup (reverse history) (named (map_refs (found_at seats) request)) ≡ false
  named_undropped request none =
      ap (λ (list : List (HandleValue × Wanted)). names_dropped setup (reverse history) list) (named_stand (found_at seats) request)
      ∙ (any_standing (λ (used : HandleValue × Wanted). is_dropped setup (reverse history) used.0.reference.number) (found_at seats) (named request)
      ∙ all_undropped (named request) none)

  -- What such a call drops goes by the number that it has there.
  pub drops_found : (request : RequestOf ℕ) → any_missing seats (named request) ≡ false → dropped_number (event_asked (map_refs (found_at seats) request)) ≡ dropped_by request
  drops_found (Drop object) none =
      ap (λ (n : ℕ). Some n) (found_number object (or_parts (is_missing seats (object, wanted.Object)) false none).0)
  drops_found (CreateBuffer made) none = refl
  drops_found (CreateTexture made) none = refl
  drops_found (CreateView texture asked) none = refl
  drops_found (CreateSampler made) none = refl
  drops_found (CreateBindGroupLayout entries) none = refl
  drops_found (CreatePipelineLayout layouts) none = refl
  drops_found (CreateBindGroup layout entries) none = refl
  drops_found (CreateComputePipeline layout iface) none = refl
  drops_found (CreateRenderPipeline layout desc) none = refl
  drops_found (GetBindGroupLayout pipeline index) none = refl
  drops_found (CreateQuerySet made) none = refl
  drops_found CreateEncoder none = refl
  drops_found (CreateBundleEncoder targets) none = refl
  drops_found (Finish encoder) none = refl
  drops_found (FinishBundle encoder) none = refl
  drops_found (Submit buffers) none = refl
  drops_found (WriteBuffer buffer offset size) none = refl
  drops_found (WriteTexture texture spot layout size data_size) none = refl
  drops_found (Destroy object) none = refl
  drops_found (Complete op) none = refl
  drops_found (PushErrorScope filter) none = refl
  drops_found PopErrorScope none = refl
  drops_found Lose none = refl
  drops_found WorkDone none = refl
  drops_found (MapAsync buffer mode offset size) none = refl
  drops_found (Unmap buffer) none = refl
