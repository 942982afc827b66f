use Rattle.std.proofs.Common.{inr, map, refl, rules, sym, subst}
use Rattle.std.specs.String.{string_bytes}
use Rattle.nt_words.specs.declared.job.Role.{Role}
use Rattle.nt_words.proofs.RoleLaws.{IsFirst, IsOther, none_asked, other_at_once, other_of_controller, other_of_member, other_of_logon}
use Rattle.nt_words.proofs.job.job_of.Goals.{in_default-2-via-in-Controller+in_default-2, in_default-2-via-in-Member+in_default-2, in_default-2-via-in-Logon+in_default-2}
use Rattle.nt_words.proofs.job.job_of.Goals as goal

other : (c : goal.In_default-2) → IsOther c.args.role (map string_bytes c.args.words.now)
other c =
    let first : IsFirst string_bytes c.args.words.now c.as_str.result.now = record {
      word = c.command-item.result;
      some = c.in-len1-up.len_at_least;
      word_is = c.command-item.is;
      command_is = c.as_str.ensures.value;
    } in
    elim c.in_default-2.branch [
      | in_default-2-via-in-Controller+in_default-2 w ↦
          subst (λ (r : Role). IsOther r (map string_bytes c.args.words.now)) (sym w.in_default-2.is-0) (other_of_controller string_bytes c.args.words.now _ first (search rules))
      | in_default-2-via-in-Member+in_default-2 w ↦
          subst (λ (r : Role). IsOther r (map string_bytes c.args.words.now)) (sym w.in_default-2.is-0) (other_of_member string_bytes c.args.words.now _ first (search rules) (search rules))
      | in_default-2-via-in-Logon+in_default-2 w ↦
          subst (λ (r : Role). IsOther r (map string_bytes c.args.words.now)) (sym w.in_default-2.is-0)
          (other_of_logon string_bytes c.args.words.now _ first (search rules) (search rules) (search rules) (search rules))
    ]

pub returns-in_default-clause-job : goal.returns-in_default-clause-job
returns-in_default-clause-job c = inr (none_asked c.args.role string_bytes c.args.words.now c.in_default.len_below).0

pub returns-in_default-2-clause-job : goal.returns-in_default-2-clause-job
returns-in_default-2-clause-job c = inr (other c).0

pub returns-in_default-2-clause-at_once : goal.returns-in_default-2-clause-at_once
returns-in_default-2-clause-at_once c = other_at_once c.args.role (map string_bytes c.args.words.now) _ (other c) refl
