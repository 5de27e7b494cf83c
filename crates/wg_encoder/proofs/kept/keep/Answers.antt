use Rattle.wg_encoder.proofs.kept.keep.Goals as goal

pub returns-in-Err-clause-kept : goal.returns-in-Err-clause-kept
returns-in-Err-clause-kept c = c.make.ensures.kept c.args.maker.now c.requires.kept

pub returns-in-Err-clause-naming : goal.returns-in-Err-clause-naming
returns-in-Err-clause-naming c = c.make.ensures.naming c.requires.naming

pub add-requires-clause-known : goal.add-requires-clause-known
add-requires-clause-known c = let known = c.make.ensures.kept c.args.maker.now c.requires.kept in rw c.deref_mut.ensures.value (rw c.in-Some.is at known)

pub add-requires-clause-naming : goal.add-requires-clause-naming
add-requires-clause-naming c = let naming = c.make.ensures.naming c.requires.naming in rw c.deref_mut.ensures.value (rw c.in-Some.is at naming)
