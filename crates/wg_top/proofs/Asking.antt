-- What the words of a command line ask for.
use Rattle.std.proofs.Common.{◌≡◌, ℕ, ◌<◌, ◌^◌, List, [], ◌∷◌, map, length, get_or, Bool, true, String, Global, string_bytes, bytes_eq, codes, decimal, Option, Some, None, arith, ap, sym, ◌∙◌, subst, option_map, Bor, le-mul_of_pos_right}
use Rattle.std.proofs.lemmas.Fmt.{decimal_injective}
use Rattle.std.proofs.lemmas.Slice.Eq.{bytes_eq-Decides}
use Rattle.wg_gen.specs.Alike.{MayGenerate}
use Rattle.wg_top.specs.Words.{Spells, AskFor, AsksNothing, IsJobOf, generation_words, lane_count}
use Rattle.wg_top.specs.declared.words.Job.{Job}
use Rattle.wg_top.specs.declared.words.Job.TheVariants.{Run, Generate, Check}

-- ---- numbers that may be asked for

-- they are small enough to be spelled
count_small : (count lanes : ℕ) → MayGenerate count lanes → count < 2 ^ 32
count_small count lanes may = omega (arith, le-mul_of_pos_right {m = lanes} count may.any, may.all)

lanes_small : (count lanes : ℕ) → MayGenerate count lanes → lanes < 2 ^ 32
lanes_small count lanes may = omega (arith, may.few)

-- ---- `gen` and its numbers

-- There is a word where there is a number, and it spells that.
abbrev pub SpellsAlike : Option (List ℕ) → Option ℕ → Type 0
SpellsAlike None None = Unit {0}
SpellsAlike None (Some n) = ⊥
SpellsAlike (Some word) None = ⊥
SpellsAlike (Some word) (Some n) = Spells word (Some n)

-- so do the words that are passed
pub alike_some : (lanes : Option (Bor (List ℕ))) (m : Option ℕ) (word : Bor (List ℕ)) (n : ℕ) → lanes ≡ Some word → m ≡ Some n → Spells word.now (Some n) → SpellsAlike (option_map (λ w. w.now) lanes) m
alike_some lanes m word n is same spelled = rw (is, same) spelled

pub alike_none : (lanes : Option (Bor (List ℕ))) (m : Option ℕ) → lanes ≡ None → m ≡ None → SpellsAlike (option_map (λ w. w.now) lanes) m
alike_none lanes m is same = rw (is, same) tt

-- a word that spells no number asks for nothing
pub no_count : (count : List ℕ) (lanes : Option (List ℕ)) → Spells count None → AsksNothing (generation_words count lanes)
no_count count lanes none Run asks = cc asks.0
no_count count lanes none Check asks = cc asks.0
no_count count lanes none (Generate n None) asks = none n asks.1.some (count_small n 1 asks.1) (cc asks.0)
no_count count lanes none (Generate n (Some m)) asks = none n asks.1.some (count_small n m asks.1) (cc asks.0)

-- a word spells one number
same_number : (word : List ℕ) (n m : ℕ) → Spells word (Some n) → m < 2 ^ 32 → word ≡ decimal m → m ≡ n
same_number word n m spelled small is = decimal_injective m n (omega arith) (omega (arith, spelled.1)) (sym is ∙ spelled.2)

-- numbers that may not be asked for ask for nothing
pub too_many : (count : List ℕ) (lanes : Option (List ℕ)) (n : ℕ) (m : Option ℕ) → Spells count (Some n) → SpellsAlike lanes m → (MayGenerate n (lane_count m) → ⊥) → AsksNothing (generation_words count lanes)
too_many count lanes n m spelled alike not Run asks = cc asks.0
too_many count lanes n m spelled alike not Check asks = cc asks.0
too_many count None n None spelled alike not (Generate k None) asks = not (subst (λ (number : ℕ). MayGenerate number 1) (same_number count n k spelled (count_small k 1 asks.1) (cc asks.0)) asks.1)
too_many count None n None spelled alike not (Generate k (Some l)) asks = cc asks.0
too_many count None n (Some m) spelled alike not (Generate k l) asks = absurd alike
too_many count (Some lanes) n None spelled alike not (Generate k l) asks = absurd alike
too_many count (Some lanes) n (Some m) spelled alike not (Generate k None) asks = cc asks.0
too_many count (Some lanes) n (Some m) spelled alike not (Generate k (Some l)) asks =
    let first : k ≡ n = same_number count n k spelled (count_small k l asks.1) (cc asks.0) in
    let second : l ≡ m = same_number lanes m l alike (lanes_small k l asks.1) (cc asks.0) in
    not (subst (λ (number : ℕ). MayGenerate n number) second (subst (λ (number : ℕ). MayGenerate number l) first asks.1))

-- ---- the list of words

-- a list is made of as many words as it is long
one_word : (xs : List (String Global)) (x : String Global) → length xs ≡ 1 → x ≡ get_or xs 0 x → map string_bytes xs ≡ string_bytes x ∷ []
one_word [] x few first = absurd (omega arith)
one_word (a ∷ []) x few first = ap (λ z. string_bytes z ∷ []) (sym first)
one_word (a ∷ b ∷ xs) x few first = absurd (omega arith)

two_words : (xs : List (String Global)) (x y : String Global) → length xs ≡ 2 → x ≡ get_or xs 0 x → y ≡ get_or xs 1 y → map string_bytes xs ≡ string_bytes x ∷ string_bytes y ∷ []
two_words [] x y few first second = absurd (omega arith)
two_words (a ∷ []) x y few first second = absurd (omega arith)
two_words (a ∷ b ∷ []) x y few first second = cc
two_words (a ∷ b ∷ c ∷ xs) x y few first second = absurd (omega arith)

three_words : (xs : List (String Global)) (x y z : String Global) → length xs ≡ 3 → x ≡ get_or xs 0 x → y ≡ get_or xs 1 y → z ≡ get_or xs 2 z → map string_bytes xs ≡ string_bytes x ∷ string_bytes y ∷ string_bytes z ∷ []
three_words [] x y z few first second third = absurd (omega arith)
three_words (a ∷ []) x y z few first second third = absurd (omega arith)
three_words (a ∷ b ∷ []) x y z few first second third = absurd (omega arith)
three_words (a ∷ b ∷ c ∷ []) x y z few first second third = cc
three_words (a ∷ b ∷ c ∷ d ∷ xs) x y z few first second third = absurd (omega arith)

-- a word that is equal to a text is that text
pub the_word : (word text : List ℕ) (b : Bool) → b ≡ bytes_eq word text → b ≡ true → word ≡ text
the_word word text b is holds = (bytes_eq-Decides word text).0 (sym is ∙ holds)

-- ---- the jobs of lists of words

pub job_named : (xs : List (String Global)) (x : String Global) (job : Option Job) → length xs ≡ 1 → x ≡ get_or xs 0 x → IsJobOf (string_bytes x ∷ []) job → IsJobOf (map string_bytes xs) job
job_named xs x job few first asked = subst (λ (words : List (List ℕ)). IsJobOf words job) (sym (one_word xs x few first)) asked

pub job_alone : (xs : List (String Global)) (x y : String Global) (job : Option Job) → length xs ≡ 2 → x ≡ get_or xs 0 x → y ≡ get_or xs 1 y → string_bytes x ≡ codes "gen"
    → IsJobOf (generation_words (string_bytes y) None) job → IsJobOf (map string_bytes xs) job
job_alone xs x y job few first second is asked =
    let same : generation_words (string_bytes y) None ≡ map string_bytes xs = sym (two_words xs x y few first second ∙ ap (λ (word : List ℕ). word ∷ string_bytes y ∷ []) is) in
    subst (λ (words : List (List ℕ)). IsJobOf words job) same asked

pub job_with_lanes : (xs : List (String Global)) (x y z : String Global) (job : Option Job) → length xs ≡ 3 → x ≡ get_or xs 0 x → y ≡ get_or xs 1 y → z ≡ get_or xs 2 z → string_bytes x ≡ codes "gen"
    → IsJobOf (generation_words (string_bytes y) (Some (string_bytes z))) job → IsJobOf (map string_bytes xs) job
job_with_lanes xs x y z job few first second third is asked =
    let same : generation_words (string_bytes y) (Some (string_bytes z)) ≡ map string_bytes xs = sym (three_words xs x y z few first second third ∙ ap (λ (word : List ℕ). word ∷ string_bytes y ∷ string_bytes z ∷ []) is) in
    subst (λ (words : List (List ℕ)). IsJobOf words job) same asked
