use Rattle.wg_counts.specs.Counts.{own_at, refers_in}
use Rattle.wg_counts.specs.Kept.{AreHolders}
use Rattle.wg_counts.proofs.Keeping.{kept_lowered, listed_fallen, once_fallen, held_before}
use Rattle.wg_counts.proofs.Counts.end.Goals as goal

pub returns-clause-falls : goal.returns-clause-falls
returns-clause-falls c =
    let own = c.self.inside.own.items in
    let refers = c.self.inside.referred.items in
    let counts = c.self.inside.counts.items in
    let kept = c.self.invariant.kept in
    let holders : AreHolders (own_at c.end_hold.new.own.items) (refers_in refers) c.end_hold.new.counts.items = c.end_hold.ensures.holders in
    let later = kept_lowered own refers counts _ c.args.number _ _ _ _ kept c.end_hold.ensures.own holders c.end_hold.ensures.falls in
    rw (← c.self.view_is) (record {
      listed = λ n. listed_fallen own refers counts _ _ _ _ kept later c.end_hold.ensures.falls n;
      once = λ n. once_fallen own refers counts _ _ _ _ kept later c.end_hold.ensures.falls n;
      falls = λ n e. held_before own refers counts _ _ _ _ kept later c.end_hold.ensures.falls n e;
    })
