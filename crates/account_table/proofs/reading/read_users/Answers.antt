use Rattle.std.proofs.Common.{arith, rules}
use Rattle.std.proofs.lemmas.Grind.{common_steps}
use Rattle.account_table.proofs.IndexLaws.{has_distinct_names-more}
use Rattle.account_table.proofs.reading.read_users.Goals as goal

pub loop-rest-preserved-in_ok-push : goal.loop-rest-preserved-in_ok-push
loop-rest-preserved-in_ok-push c = record {
  so_far = first_of (search rules, grind (arith, common_steps));
  count = first_of (search rules, grind (arith, common_steps));
  different = has_distinct_names-more _ _ _ c.in_ok-push.ensures.appended c.loop-rest.invariant.different c.in_ok-account.ensures.fresh;
  numbers = first_of (search rules, grind (arith, common_steps));
}
