-- What calls send: one that opens a channel, or begins to, is answered by one reply and leaves the sessions; and behind
-- a call that is judged one judgement and one reply stand. It serves `replies_are_sent_as_judged` and
-- `units_have_their_marks` of `step_notes`, `Proved.credentials`, `Proved.sessions` and `Proved.ways`.
use Rattle.std.proofs.Common.{◌≡◌, ℕ, List, [], ◌∷◌, ◌++◌, flat_map, refl, ap, ◌∙◌}
use Rattle.std.proofs.lemmas.List.Concat.{flat_map-append}
use Rattle.std.specs.List.{AllByRecursion}
use Rattle.wire_base.specs.Maps.{lookup}
use Rattle.wire_base.specs.Names.{same_name}
use Rattle.outside.specs.declared.action.Action.{Action}
use Rattle.outside.specs.declared.action.Action.TheVariants as action
use Rattle.outside.specs.declared.action.Judged.{Judged}
use Rattle.outside.specs.declared.action.Judged.TheVariants as judged
use Rattle.logon_stubs.specs.declared.calls.AuthCall.{AuthCall}
use Rattle.logon_stubs.specs.declared.calls.ChallengeCall.{ChallengeCall}
use Rattle.account_table.specs.AccountTable.{AccountTable}
use Rattle.controller_calls.specs.Calls.{asked_of}
use Rattle.controller_calls.specs.Desk.{Desk, desk, take_pair}
use Rattle.controller_calls.specs.Doing.{Done, done_by, kept_asked}
use Rattle.controller_calls.specs.Opening.{account_for, answer_authenticate, answer_challenge}
use Rattle.controller_calls.specs.Passing.{IsKeep}
use Rattle.controller_calls.specs.declared.calls.JudgedCall.{JudgedCall}
use Rattle.controller_calls.specs.declared.line.Line.{Line}
use Rattle.controller_calls.specs.declared.state.Work.{Work}
use Rattle.controller_calls.proofs.OutcomeLaws.{JudgedComes, Passes, Refused, challenge_comes, opening_comes, texts_kept}

-- ---- a call that isn't judged

pub record Replies (line : Line) (before after : Work) : Type 0 where
  pub bytes : List ℕ
  pub actions : after.actions ≡ before.actions ++ action.Send line.link bytes ∷ []
  pub sessions : after.computers.sessions ≡ before.computers.sessions

pub challenge_replies : (table : AccountTable) (line : Line) (c : ChallengeCall) (server : List ℕ) (work : Work) →
    Replies line work (answer_challenge table line c server work)
challenge_replies table line c server work =
    challenge_comes (λ (after : Desk). Replies line work after.work) line c server (desk table work) (record {
      unknown = λ is. record { bytes = _; actions = refl; sessions = refl };
      known = λ is. record { bytes = _; actions = refl; sessions = refl };
    })

pub authenticate_replies : (table : AccountTable) (line : Line) (c : AuthCall) (work : Work) → Replies line work (answer_authenticate table line c work)
authenticate_replies table line c work =
    opening_comes (λ (later : Work). Replies line work later) (account_for table c) (lookup same_name c.computer work.computers.pending) line c (take_pair c.computer work) (record {
      denied = λ status fails none. record { bytes = _; actions = refl; sessions = refl };
      accepted = λ opens. record { bytes = _; actions = refl; sessions = refl };
    })

-- ---- a call that is judged

-- what is read off each action is read off no text that is kept
module _ {T : Type 0} (read : Action → List T) (none : (text : List ℕ) → read (action.Keep text) ≡ []) where
  none_kept : (kept : List Action) → AllByRecursion IsKeep kept → flat_map read kept ≡ []
  none_kept [] are = refl
  none_kept (action.Keep text ∷ kept) are = ap (λ (first : List T). first ++ flat_map read kept) (none text) ∙ none_kept kept are.1
  none_kept (action.Send link bytes ∷ kept) are = absurd are.0
  none_kept (action.Dial peer ∷ kept) are = absurd are.0
  none_kept (action.Close link cause ∷ kept) are = absurd are.0
  none_kept (action.Told link outcome ∷ kept) are = absurd are.0
  none_kept (action.Judged how ∷ kept) are = absurd are.0

  -- what is sent for a call is read off the judgement and the reply, behind what stood before it
  pub read_behind : (old kept : List Action) (how : Judged) (link : ℕ) (bytes : List ℕ) → AllByRecursion IsKeep kept →
      flat_map read (old ++ (kept ++ action.Judged how ∷ action.Send link bytes ∷ []))
      ≡ flat_map read old ++ flat_map read (action.Judged how ∷ action.Send link bytes ∷ [])
  read_behind old kept how link bytes are =
      let last : List Action = action.Judged how ∷ action.Send link bytes ∷ [] in
      flat_map-append read old (kept ++ last)
      ∙ ap (λ (more : List T). flat_map read old ++ more) (flat_map-append read kept last ∙ ap (λ (front : List T). front ++ flat_map read last) (none_kept kept are))

-- one judgement and one reply, behind texts that are kept
pub record JudgesOne (line : Line) (before after : Desk) : Type 0 where
  pub kept : List Action
  pub are_kept : AllByRecursion IsKeep kept
  pub how : Judged
  pub answer : List ℕ
  pub actions : after.work.actions ≡ before.work.actions ++ (kept ++ action.Judged how ∷ action.Send line.link answer ∷ [])

pub judges_one : (c : JudgedCall) (name : List ℕ) (now : ℕ) (line : Line) (d after : Desk) → JudgedComes c name now line d after → JudgesOne line d after
judges_one c name now line d after (Passes next is) =
    let done : Done = done_by c next.channel name d.table now d.work.computers.sessions in
    record { kept = kept_asked (asked_of c) done; are_kept = texts_kept (asked_of c) done; how = judged.Passed done.status; answer = _; actions = is.actions }
judges_one c name now line d after (Refused how away) = record { kept = []; are_kept = tt; how = how; answer = _; actions = away.actions }
