-- What counts of holds are, and what becomes of them while holds end.
use Rattle.std.specs.Prelude.{◌≡◌, ℕ, zero, suc, ◌+◌, ◌<◌, ◌≤◌, Bool, true, false, not, ◌&&◌, ◌||◌, nat_lt, List, [], ◌∷◌, length, drop, slice_index_or, if◌then◌else◌}
use Rattle.wg_model.specs.Holding.{is_among}
use Rattle.wg_fading.specs.Fading.{was_let_go}
use Rattle.wg_counts.specs.Counts.{own_at, refers_in, times}

-- the count of object n, or 0
abbrev pub count_at : List ℕ → ℕ → ℕ
count_at counts n = slice_index_or counts n 0

-- whether the count of object n is not 0
abbrev pub is_alive : List ℕ → ℕ → Bool
is_alive counts n = nat_lt 0 (count_at counts n)

-- the sum over those of the first m objects that are alive
abbrev pub sum_alive : (ℕ → Bool) → (ℕ → ℕ) → ℕ → ℕ
sum_alive alive weight zero = 0
sum_alive alive weight (suc m) = sum_alive alive weight m + (if alive m then weight m else 0)

-- how often objects that are alive refer to object n
abbrev pub references : List ℕ → (ℕ → List ℕ) → ℕ → ℕ
references counts refers n = sum_alive (is_alive counts) (λ m. times n (refers m)) (length counts)

-- how many objects are alive
abbrev pub living : List ℕ → ℕ
living counts = sum_alive (is_alive counts) (λ m. 1) (length counts)

-- Each count is the number of holds that are no objects, with the references of objects whose own count is not 0.
pub record AreHolders (own : ℕ → ℕ) (refers : ℕ → List ℕ) (counts : List ℕ) : Type 0 where
  pub each : (n : ℕ) → count_at counts n ≡ own n + references counts refers n

-- Each object refers to earlier ones alone.
pub record GoBack (refers : ℕ → List ℕ) : Type 0 where
  pub back : (m n : ℕ) → is_among (refers m) n ≡ true → n < m

-- No count is above the number of holds that were ever taken.
pub record AreWithin (taken : ℕ) (counts : List ℕ) : Type 0 where
  pub each : (n : ℕ) → count_at counts n ≤ taken

-- The references of each object are kept while it is alive, and those of a list until they are gone through; what is listed is
-- not alive, and stands there once.
pub record ReferencesAreKept (referred : ℕ → List ℕ) (counts later : List ℕ) (refers : List (List ℕ)) : Type 0 where
  pub len : length refers ≡ length counts
  pub once : (n : ℕ) → times n later + (if is_alive counts n then 1 else 0) ≤ 1
  pub each : (n : ℕ) → refers_in refers n ≡ (if is_alive counts n || is_among later n then referred n else [])

-- Counts are those of the holds: each is that of its holders, references go back, and there is one for each object.
pub record IsKept (own : List ℕ) (refers : List (List ℕ)) (counts : List ℕ) : Type 0 where
  pub holders : AreHolders (own_at own) (refers_in refers) counts
  pub back : GoBack (refers_in refers)
  pub owns : length own ≡ length counts
  pub lists : length refers ≡ length counts

-- Counts fell, and an object whose count came to 0 was listed, once.
pub record HaveFallen (first before counts fallen : List ℕ) : Type 0 where
  pub len : length counts ≡ length first
  pub below : (n : ℕ) → count_at counts n ≤ count_at first n
  pub listed : (n : ℕ) → is_among fallen n ≡ is_among before n || (is_alive first n && not (is_alive counts n))
  pub once : (n : ℕ) → times n fallen + (if is_alive counts n then 1 else 0) ≡ times n before + (if is_alive first n then 1 else 0)
  pub room : length fallen + living counts ≡ length before + living first

-- how often objects of a list refer to object n
abbrev pub pending : (ℕ → List ℕ) → List ℕ → ℕ → ℕ
pending refers [] n = 0
pending refers (m ∷ ms) n = times n (refers m) + pending refers ms n

-- While a hold ends: holds of the objects of a list are still to end, and the references of those that fell from a place on.
pub record IsEnding (own : ℕ → ℕ) (refers : ℕ → List ℕ) (first before counts fallen : List ℕ) (place : ℕ) (rest : List ℕ) : Type 0 where
  pub falls : HaveFallen first before counts fallen
  pub holders : AreHolders (λ n. own n + (times n rest + pending refers (drop place fallen) n)) refers counts
  pub inside : (n : ℕ) → is_among (drop place fallen) n ≡ true → n < length first
  pub reached : place ≤ length fallen

-- What was let go was made, is not alive and is not listed as fallen.
pub record AreDead (gone counts fallen : List ℕ) : Type 0 where
  pub made : (n : ℕ) → was_let_go gone n ≡ true → n < length counts
  pub each : (n : ℕ) → was_let_go gone n ≡ true → is_alive counts n ≡ false
  pub unlisted : (n : ℕ) → was_let_go gone n ≡ true → is_among fallen n ≡ false
