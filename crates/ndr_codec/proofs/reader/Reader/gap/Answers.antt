-- What is read is what the layout has, by the law of this item.
use Rattle.std.proofs.Common.{subst, rules}
use Rattle.ndr_codec.specs.Cursor.{IsPlaced}
use Rattle.ndr_codec.specs.Layout.{gap}
use Rattle.ndr_codec.specs.Reading.{read_gap}
use Rattle.ndr_codec.proofs.Agreeing.{agree_item, only_ok, only_by}
use Rattle.ndr_codec.proofs.reader.Reader.gap.Goals as goal

pub returns-clause-exact : goal.returns-clause-exact
unfolding read_gap
returns-clause-exact c = search rules

pub returns-clause-found : goal.returns-clause-found
returns-clause-found c = (agree_item gap).found _ _ _ (subst IsPlaced c.self.view_is c.self.invariant) (returns-clause-exact c)

pub returns-clause-only : goal.returns-clause-only
returns-clause-only c next f = only_ok (agree_item gap) (subst IsPlaced c.self.view_is c.self.invariant) (returns-clause-exact c) tt next f

pub returns-then-start-self-clause-exact : goal.returns-then-start-self-clause-exact
unfolding read_gap
returns-then-start-self-clause-exact c = search rules

pub returns-then-start-self-clause-only : goal.returns-then-start-self-clause-only
returns-then-start-self-clause-only c next f = only_by c.args.self.now _ (agree_item gap) (subst IsPlaced c.self.view_is c.self.invariant) (returns-then-start-self-clause-exact c) tt next f
