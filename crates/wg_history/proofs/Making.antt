-- What an object refers to, or names, when it is made: objects that were made before it, and are held.
use Rattle.std.proofs.Common.{◌≡◌, ℕ, ◌<◌, [], ◌∷◌, Bool, true, false, ◌&&◌, ◌==◌, Some, sym, arith, if◌then◌else◌, true≢false, refl}
use Rattle.std.specs.Option.{option_map_or}
use Rattle.std.proofs.lemmas.Bool.{and_parts, eqb-true}
use Rattle.wg_model.specs.Recorded.{names_within}
use Rattle.wg_model.specs.Holding.{is_among}
use Rattle.wg_history.specs.Entries.{Setup, recorded_by, Entry, Past}
use Rattle.wg_history.specs.Objects.{is_making, count, maker, is_valid, is_made_valid, commands_at}
use Rattle.wg_history.specs.Held.{refers_made, refers_at, is_held}
use Rattle.wg_history.specs.Answers.{reply_to, IsRun}
use Rattle.wg_history.proofs.Runs.{newest, others}
use Rattle.wg_history.proofs.Makers.{made_met}
use Rattle.wg_history.proofs.Holders.{rooted, finish_names, refers_root}

-- What a valid object refers to was made and is held when it is made: it is own and not dropped, or the encoder of a bundle awaits it.
pub refers_held : (setup : Setup) (past : Past) (entry : Entry) (m : ℕ) → entry.reply ≡ reply_to setup past entry.event → is_made_valid entry.reply.answer ≡ true → is_among (refers_made entry.event) m ≡ true → (m < count past) × (is_held setup past m ≡ true)
refers_held setup past entry m same valid refers =
    let those = refers_root setup past entry.event m (made_met setup entry past same valid) refers in
    (those.0, rooted setup past m those.0 those.1)

-- What the commands of a finish that is accepted name was made and is held: it is not dropped, or the encoder awaits it.
pub names_held : (setup : Setup) (past : Past) (entry : Entry) (m : ℕ) → entry.reply ≡ reply_to setup past entry.event → is_made_valid entry.reply.answer ≡ true → is_among (names_within (recorded_by entry.event)) m ≡ true → (m < count past) × (is_held setup past m ≡ true)
names_held setup past entry m same valid names =
    let those = finish_names setup past entry.event m (made_met setup entry past same valid) names in
    (those.0, rooted setup past m those.0 those.1)

-- In a run objects refer to earlier ones, and valid command buffers name earlier ones.
pub refers_back : (setup : Setup) (past : Past) (m n : ℕ) → IsRun setup past → is_among (refers_at past m) n ≡ true → n < m
refers_back setup [] m n run e = absurd (true≢false (sym e))
refers_back setup (entry ∷ older) m n run e = by_maker (is_making entry.event && count older == m) refl e (refers_back setup older m n (others setup entry older run))
  where
    by_valid : (b : Bool) → is_made_valid entry.reply.answer ≡ b → count older ≡ m → is_among (if b then refers_made entry.event else []) n ≡ true → n < m
    by_valid true valid same refers = let lt = (refers_held setup older entry n (newest setup entry older run) valid refers).0 in omega (arith, lt, same)
    by_valid false valid same refers = absurd (true≢false (sym refers))

    by_maker : (b : Bool) → (is_making entry.event && count older == m) ≡ b → is_among (if option_map_or (λ entry. is_made_valid entry.reply.answer) (if b then Some entry else maker older m) false then option_map_or (λ entry. refers_made entry.event) (if b then Some entry else maker older m) [] else []) n ≡ true → (is_among (refers_at older m) n ≡ true → n < m) → n < m
    by_maker true made refers rest = by_valid (is_made_valid entry.reply.answer) refl (eqb-true (count older) m (and_parts (is_making entry.event) (count older == m) made).1) refers
    by_maker false made refers rest = rest refers

pub names_back : (setup : Setup) (past : Past) (b n : ℕ) → IsRun setup past → is_valid past b ≡ true → is_among (names_within (commands_at past b)) n ≡ true → n < b
names_back setup [] b n run valid names = absurd (true≢false (sym valid))
names_back setup (entry ∷ older) b n run valid names = by_maker (is_making entry.event && count older == b) refl valid names (names_back setup older b n (others setup entry older run))
  where
    by_maker : (made : Bool) → (is_making entry.event && count older == b) ≡ made → option_map_or (λ entry. is_made_valid entry.reply.answer) (if made then Some entry else maker older b) false ≡ true → is_among (names_within (option_map_or (λ entry. recorded_by entry.event) (if made then Some entry else maker older b) [])) n ≡ true
        → (is_valid older b ≡ true → is_among (names_within (commands_at older b)) n ≡ true → n < b) → n < b
    by_maker true made valid names rest =
        let same : count older ≡ b = eqb-true (count older) b (and_parts (is_making entry.event) (count older == b) made).1 in
        let lt = (names_held setup older entry n (newest setup entry older run) valid names).0 in
        omega (arith, lt, same)
    by_maker false made valid names rest = rest valid names
