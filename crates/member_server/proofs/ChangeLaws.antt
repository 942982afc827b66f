-- How a change of the member's secret begins. It serves `Member::change`.
use Rattle.std.proofs.Common.{◌≡◌, ◌≢◌, ◌↔◌, ℕ, IsTrue, List, [], ◌∷◌, Option, Some, None, is_none, Result, Ok, Err, refl, sym, ap, subst, ◌∙◌}
use Rattle.outside.specs.declared.action.Action.{Action}
use Rattle.outside.specs.declared.action.Action.TheVariants as action
use Rattle.secret_change.specs.Secrets.{SecretsState, begin_of, next_of, written_secrets}
use Rattle.secret_change.specs.declared.refused.Busy.{Busy}
use Rattle.secret_change.specs.declared.secrets.Next.{Next}
use Rattle.member_server.specs.declared.change.ChangeRefused.{ChangeRefused}
use Rattle.member_server.specs.declared.change.ChangeRefused.TheVariants as change_refused
use Rattle.member_server.specs.declared.state.Running.{Running}
use Rattle.member_server.specs.Machine.{ChangesBy, change_begun, change_of, change_on, halted_state, is_stopped, next_kept, next_kept_by, running_with}
use Rattle.member_server.specs.State.{State}

-- what a change answers
abbrev Answer : Type 0
Answer = Result (List Action) ChangeRefused

-- what it comes to for the secrets
abbrev Begun : Type 0
Begun = Result (Unit {0}) Busy

-- ---- secrets of which one is next, and of which none is

same_busy : (begun : Begun) (one other : Busy) → begun ≡ Err one → begun ≡ Err other → one ≡ other
same_busy begun one other is too = let both = sym is ∙ too in cc

busy_next : (next : Option Next) (current new other : List ℕ) →
    (begin_of (record { current = current; next = next }) new).answer ≡ Err (record { next = other }) →
    next_of (record { current = current; next = next }) ≡ Some other
busy_next None current new other is = absurd (let z = is in cc)
busy_next (Some n) current new other is =
    ap (λ (b : Busy). Some b.next)
    (same_busy (begin_of (record { current = current; next = Some n }) new).answer (record { next = n.secret }) (record { next = other }) refl is)

busy_secrets : (next : Option Next) (current new other : List ℕ) →
    (begin_of (record { current = current; next = next }) new).answer ≡ Err (record { next = other }) →
    (begin_of (record { current = current; next = next }) new).secrets ≡ record { current = current; next = next }
busy_secrets None current new other is = absurd (let z = is in cc)
busy_secrets (Some n) current new other is = refl

free_next : (next : Option Next) (current new : List ℕ) (done : Unit {0}) →
    (begin_of (record { current = current; next = next }) new).answer ≡ Ok done → next_of (record { current = current; next = next }) ≡ None
free_next None current new done is = refl
free_next (Some n) current new done is = absurd (let z = is in cc)

-- ---- the answer of a member that isn't stopped

-- a change is under way
pub busy_answer : (running after : Running) (new : List ℕ) (busy : Busy) →
    after ≡ running_with (begin_of running.logons.plan.secrets new).secrets running → (begin_of running.logons.plan.secrets new).answer ≡ Err busy →
    ChangesBy (Err (change_refused.Busy busy.next)) (change_of (record { running = Some running }) new) (record { running = Some after })
busy_answer running after new busy is answer =
    let s = running.logons.plan.secrets in
    let begun = begin_of s new in
    let same : after ≡ running = is ∙ ap (λ (x : SecretsState). running_with x running) (busy_secrets s.next s.current new busy.next answer) in
    subst (λ (a : Begun). ChangesBy (Err (change_refused.Busy busy.next)) (change_begun a begun.secrets running (record { running = Some running })) (record { running = Some after }))
    (sym answer) (refl, ap (λ (r : Running). record { running = Some r }) same)

-- one begins
pub done_answer : (running after : Running) (new : List ℕ) (done : Unit {0}) (actions : List Action) →
    after ≡ running_with (begin_of running.logons.plan.secrets new).secrets running →
    (begin_of running.logons.plan.secrets new).answer ≡ Ok done →
    actions ≡ action.Keep (written_secrets after.logons.plan.secrets) ∷ [] →
    ChangesBy (Ok actions) (change_of (record { running = Some running }) new) (record { running = Some after })
done_answer running after new done actions is answer told =
    let begun = begin_of running.logons.plan.secrets new in
    subst (λ (a : Begun). ChangesBy (Ok actions) (change_begun a begun.secrets running (record { running = Some running })) (record { running = Some after }))
    (sym answer) (
      ap Ok (sym (told ∙ ap (λ (r : Running). action.Keep (written_secrets r.logons.plan.secrets) ∷ []) is)),
      ap (λ (r : Running). record { running = Some r }) is,
    )

-- ---- whether a change was under way

pub busy_is : (running : Running) (new next : List ℕ) (busy : Busy) (result : Answer) → result ≡ Err (change_refused.Busy busy.next) →
    (begin_of running.logons.plan.secrets new).answer ≡ Err busy →
    (result ≡ Err (change_refused.Busy next)) ↔ (next_of running.logons.plan.secrets ≡ Some next)
busy_is running new next busy result is answer =
    let s = running.logons.plan.secrets in
    let kept : next_of s ≡ Some busy.next = busy_next s.next s.current new busy.next answer in (
      λ same. kept ∙ (let both = sym is ∙ same in cc),
      λ has. let both = sym kept ∙ has in let first = is in cc,
    )

pub busy_not : (running : Running) (new next : List ℕ) (done : Unit {0}) (result : Answer) →
    (begin_of running.logons.plan.secrets new).answer ≡ Ok done → result ≢ Err (change_refused.Busy next) →
    (result ≡ Err (change_refused.Busy next)) ↔ (next_of running.logons.plan.secrets ≡ Some next)
busy_not running new next done result answer never =
    let s = running.logons.plan.secrets in
    let none : next_of s ≡ None = free_next s.next s.current new done answer in (
      λ same. absurd (never same),
      λ has. absurd (let both = sym none ∙ has in cc),
    )

pub ruleset changing = (busy_answer, done_answer, busy_is, busy_not)

-- ---- a member that is stopped, or not

pub change_stopped : (s now : State) (new : List ℕ) → s.running ≡ None → now ≡ halted_state → ChangesBy (Err change_refused.Stopped) (change_of s new) now
change_stopped s now new none is =
    subst (λ (r : Option Running). ChangesBy (Err change_refused.Stopped) (change_on r (record { running = r }) new) now) (sym none) (refl, is)

pub change_answer : (running : Running) (s now : State) (new : List ℕ) (result : Answer) (after : Option Running) → s.running ≡ Some running →
    now ≡ record { running = after } → ChangesBy result (change_of (record { running = Some running }) new) (record { running = after }) →
    ChangesBy result (change_of s new) now
change_answer running s now new result after runs is answer =
    subst (λ (n : State). ChangesBy result (change_of s new) n) (sym is)
    (subst (λ (r : Option Running). ChangesBy result (change_on r (record { running = r }) new) (record { running = after })) (sym runs) answer)

pub stopped_is : (s : State) (result : Answer) → result ≡ Err change_refused.Stopped → s.running ≡ None →
    (result ≡ Err change_refused.Stopped) ↔ IsTrue (is_stopped s)
stopped_is s result is none = (λ same. ap (λ (r : Option Running). is_none r) none, λ stopped. is)

pub stopped_not : (running : Running) (s : State) (result : Answer) → s.running ≡ Some running → result ≢ Err change_refused.Stopped →
    (result ≡ Err change_refused.Stopped) ↔ IsTrue (is_stopped s)
stopped_not running s result runs never = (
  λ same. absurd (never same),
  λ stopped. absurd (let both = sym (ap (λ (r : Option Running). is_none r) runs) ∙ stopped in cc),
)

pub kept_none : (s : State) (next : List ℕ) (result : Answer) → result ≡ Err change_refused.Stopped → s.running ≡ None →
    (result ≡ Err (change_refused.Busy next)) ↔ (next_kept s ≡ Some next)
kept_none s next result is none = (
  λ same. absurd (let both = sym is ∙ same in cc),
  λ has. absurd (let both = sym (ap (λ (r : Option Running). next_kept_by r) none) ∙ has in cc),
)

pub kept_some : (running : Running) (s : State) (next : List ℕ) (result : Answer) → s.running ≡ Some running →
    ((result ≡ Err (change_refused.Busy next)) ↔ (next_of running.logons.plan.secrets ≡ Some next)) →
    (result ≡ Err (change_refused.Busy next)) ↔ (next_kept s ≡ Some next)
kept_some running s next result runs is =
    subst (λ (o : Option (List ℕ)). (result ≡ Err (change_refused.Busy next)) ↔ (o ≡ Some next))
    (sym (ap (λ (r : Option Running). next_kept_by r) runs)) is

pub ruleset changing_member = (change_stopped, change_answer, stopped_is, stopped_not, kept_none, kept_some)
