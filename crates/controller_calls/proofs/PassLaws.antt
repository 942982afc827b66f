-- Which authenticator passes. It serves `the_next_authenticator_passes`.
use Rattle.std.proofs.Common.{◌≡◌, ◌↔◌, ℕ, true, List, [], ◌∷◌, ◌++◌, refl}
use Rattle.std.specs.List.{AllByRecursion}
use Rattle.outside.specs.declared.action.Action.{Action}
use Rattle.outside.specs.declared.action.Action.TheVariants as action
use Rattle.outside.specs.declared.action.Judged.{Judged}
use Rattle.outside.specs.declared.action.Judged.TheVariants as judged
use Rattle.logon_stubs.specs.declared.calls.LogonCall.{LogonCall}
use Rattle.controller_calls.specs.Calls.{asked_of, computer_named, given_in}
use Rattle.controller_calls.specs.Desk.{Desk}
use Rattle.controller_calls.specs.Doing.{Done, done_by, kept_asked}
use Rattle.controller_calls.specs.Passing.{IsKeep, IsNext, PassesTheNext, is_passed}
use Rattle.controller_calls.specs.declared.calls.JudgedCall.{JudgedCall}
use Rattle.controller_calls.specs.declared.calls.JudgedCall.TheVariants.{Network}
use Rattle.controller_calls.specs.declared.line.Line.{Line}
use Rattle.controller_calls.proofs.OutcomeLaws.{IsTurnedAway, JudgedComes, Passes, Refused, judged_comes, texts_kept}
pub use Rattle.controller_calls.proofs.OutcomeLaws.{not_both}

never : (c : JudgedCall) (line : Line) (how : Judged) (d after : Desk) → IsTurnedAway c line how d after → (is_passed how ≡ true) ↔ IsNext d.work.computers (computer_named c) (given_in c)
never c line how d after away = let not = away.not_passed in (λ is. absurd cc, λ next. absurd (away.not_next next))

-- the call's one judgement and one answer, behind texts that are kept, and when it passes
judged_once : (c : JudgedCall) (name : List ℕ) (now : ℕ) (line : Line) (d after : Desk) → JudgedComes c name now line d after →
    (kept : List Action) × (how : Judged) × (answer : List ℕ) × AllByRecursion IsKeep kept
    × (after.work.actions ≡ d.work.actions ++ (kept ++ action.Judged how ∷ action.Send line.link answer ∷ []))
    × ((is_passed how ≡ true) ↔ IsNext d.work.computers (computer_named c) (given_in c))
judged_once c name now line d after (Passes next is) =
    let done : Done = done_by c next.channel name d.table now d.work.computers.sessions in
    (kept_asked (asked_of c) done, judged.Passed done.status, _, texts_kept (asked_of c) done, is.actions, (λ so. next, λ other. refl))
judged_once c name now line d after (Refused how away) = ([], how, _, tt, away.actions, never c line how d after away)

-- for a network logon no text is kept
logon_once : (c : LogonCall) (name : List ℕ) (now : ℕ) (line : Line) (d after : Desk) → JudgedComes (Network c) name now line d after →
    (how : Judged) × (answer : List ℕ) × (after.work.actions ≡ d.work.actions ++ action.Judged how ∷ action.Send line.link answer ∷ [])
    × ((is_passed how ≡ true) ↔ IsNext d.work.computers c.computer c.authenticator)
logon_once c name now line d after (Passes next is) =
    let done : Done = done_by (Network c) next.channel name d.table now d.work.computers.sessions in
    (judged.Passed done.status, _, is.actions, (λ so. next, λ other. refl))
logon_once c name now line d after (Refused how away) = (how, _, away.actions, never (Network c) line how d after away)

pub passes_the_next : PassesTheNext
passes_the_next = record {
  logon = λ c name now line d. logon_once c name now line d _ (judged_comes (Network c) name now line d);
  judged = λ c name now line d. judged_once c name now line d _ (judged_comes c name now line d);
}
