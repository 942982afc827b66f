-- A member that begins to change its secret.
use Rattle.std.proofs.Common.{◌≡◌, ℕ, false, List, [], ◌∷◌, ◌++◌, Option, Some, None, IsSome, Result, Ok, Err, refl}
use Rattle.outside.specs.declared.action.Action.TheVariants.{Keep}
use Rattle.secret_change.specs.Secrets.{SecretsState, alone, begin_of, line_of, untried_next, written_secrets}
use Rattle.secret_change.specs.declared.secrets.Next.{Next}
use Rattle.secret_change.specs.declared.refused.Busy.{Busy}
use Rattle.member_server.specs.Machine.{change_begun, change_of, change_on, is_stopped}
use Rattle.member_server.specs.SealStep.{sealing_member}
use Rattle.member_server.specs.State.{State}
use Rattle.member_server.specs.declared.state.Running.{Running}
use Rattle.nt_words.specs.Jobs.{MemberJob}
use Rattle.nt_top.specs.Service.{BeginsOneChange, first_of, member_begins, member_plan}

-- ---- a member that begins a change goes on

begun_runs : (answer : Result Unit Busy) (secrets : SecretsState) (running : Running) (s : State) → is_stopped s ≡ false → is_stopped (change_begun answer secrets running s).state ≡ false
begun_runs (Ok begun) secrets running s is = refl
begun_runs (Err busy) secrets running s is = is

on_runs : (running : Option Running) (s : State) (new : List ℕ) → is_stopped s ≡ false → is_stopped (change_on running s new).state ≡ false
on_runs None s new is = is
on_runs (Some running) s new is = begun_runs (begin_of running.logons.plan.secrets new).answer (begin_of running.logons.plan.secrets new).secrets running s is

pub change_runs : (s : State) (new : List ℕ) → is_stopped s ≡ false → is_stopped (change_of s new).state ≡ false
change_runs s new is = on_runs s.running s new is

-- ---- what it begins with

begins_with : (job : MemberJob) (seed current new : List ℕ) →
    member_begins job (record { secrets = alone current; seed = seed; change = Some new }) ≡ record {
      answer = Ok (Keep (line_of current ++ line_of new) ∷ []);
      state = sealing_member (member_plan job (record { current = current; next = Some (untried_next new) }));
    }
unfolding written_secrets
begins_with job seed current new = refl

-- one is under way, whether a change is asked for or not
under_way : (job : MemberJob) (seed current : List ℕ) (next : Option Next) (change : Option (List ℕ)) → IsSome next →
    (first_of (member_begins job (record { secrets = record { current = current; next = next }; seed = seed; change = change })).answer ≡ [])
    × ((member_begins job (record { secrets = record { current = current; next = next }; seed = seed; change = change })).state
    ≡ sealing_member (member_plan job (record { current = current; next = next })))
under_way job seed current (Some next) (Some new) is = (refl, refl)
under_way job seed current (Some next) None is = (refl, refl)
under_way job seed current None change is = absurd cc

none_asked : (job : MemberJob) (seed : List ℕ) (secrets : SecretsState) (change : Option (List ℕ)) → change ≡ None →
    (first_of (member_begins job (record { secrets = secrets; seed = seed; change = change })).answer ≡ [])
    × ((member_begins job (record { secrets = secrets; seed = seed; change = change })).state ≡ sealing_member (member_plan job secrets))
none_asked job seed secrets None is = (refl, refl)
none_asked job seed secrets (Some new) is = absurd cc

pub begins_one : BeginsOneChange
begins_one = record {
  begins = begins_with;
  passed_over = λ job files is. under_way job files.seed files.secrets.current files.secrets.next files.change is;
  not_asked = λ job files is. none_asked job files.seed files.secrets files.change is;
}
