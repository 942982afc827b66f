-- What a controller tells of a call on a secure channel at one step is right, and is told once.
-- It serves `grants_carry_their_key`, `replies_are_sent_as_judged`.
use Rattle.std.proofs.Common.{◌≡◌, ℕ, true, false, List, [], ◌∷◌, ◌++◌, drop, length, Option, Some, None, refl, sym, ap, ◌∙◌, subst}
use Rattle.std.specs.List.{AllByRecursion}
use Rattle.std.proofs.lemmas.Slice.Eq.{bytes_eq-Decides}
use Rattle.wire_base.specs.Maps.{lookup}
use Rattle.wire_base.specs.Names.{same_name}
use Rattle.wire_base.specs.declared.authenticator.Authenticator.{Authenticator}
use Rattle.authenticators.specs.Sequences.{Passes}
use Rattle.authenticators.specs.SecureChannels.{SecureChannelState, key_of_channel}
use Rattle.outside.specs.declared.action.Action.{Action}
use Rattle.outside.specs.declared.action.Action.TheVariants as action
use Rattle.outside.specs.declared.action.Judged.{Judged}
use Rattle.outside.specs.declared.action.Judged.TheVariants as judged
use Rattle.domain_controller.specs.Laws.{IsNext}
use Rattle.domain_controller.specs.Machine.{Desk, answer_judged}
use Rattle.controller_calls.specs.Calls.{asked_of, computer_named, given_in}
use Rattle.controller_calls.specs.Doing.{Done, done_by, kept_asked}
use Rattle.controller_calls.specs.Passing.{IsKeep, is_passed}
use Rattle.controller_calls.specs.declared.calls.JudgedCall.{JudgedCall}
use Rattle.controller_calls.specs.declared.line.Line.{Line}
use Rattle.controller_calls.specs.declared.state.Computers.{Computers}
use Rattle.controller_calls.proofs.OutcomeLaws.{Bare, Barred, JudgedComes, Passes as PassesNext, Refused, WhyRefused, judged_comes, texts_kept}
use Rattle.step_notes.specs.ControllerNotes.{checked_on, judged_in}
use Rattle.step_notes.specs.Judged.{IsBarredBy, IsNextOn, IsOfName, IsRightOf}

-- ---- a call

-- behind what stood before
pub dropped : {T : Type 0} (old new : List T) → drop (length old) (old ++ new) ≡ new
dropped [] new = refl
dropped (first ∷ old) new = dropped old new

-- the first judgement behind texts that are kept
pub told_kept : (kept : List Action) (how : Judged) (other : Action) → AllByRecursion IsKeep kept → judged_in (kept ++ action.Judged how ∷ other ∷ []) ≡ Some how
told_kept [] how other are = refl
told_kept (action.Keep text ∷ kept) how other are = told_kept kept how other are.1
told_kept (action.Send at more ∷ kept) how other are = absurd are.0
told_kept (action.Dial peer ∷ kept) how other are = absurd are.0
told_kept (action.Close at cause ∷ kept) how other are = absurd are.0
told_kept (action.Told at outcome ∷ kept) how other are = absurd are.0
told_kept (action.Judged another ∷ kept) how other are = absurd are.0

-- What a call comes to: one judgement and one answer more, behind texts that are kept, and the judgement is right.
pub record Told (line : Line) (old after : List Action) (checks : Option SecureChannelState) (shown : Option Authenticator) : Type 0 where
  pub kept : List Action
  pub are_kept : AllByRecursion IsKeep kept
  pub how : Judged
  pub answer : List ℕ
  pub is : after ≡ old ++ (kept ++ action.Judged how ∷ action.Send line.link answer ∷ [])
  pub right : IsRightOf (Some how) checks shown

right_none : (checks : Option SecureChannelState) (shown : Option Authenticator) → (IsNextOn checks shown → ⊥) → (IsBarredBy checks shown → ⊥) → IsRightOf (Some judged.NoChannel) checks shown
right_none checks shown none free = record {
  passed = (λ is. absurd cc, λ next. absurd (none next));
  barred = (λ is. absurd cc, λ barred. absurd (free barred));
  other = (λ is. (none, free), λ both. refl);
}

right_barred : (checks : Option SecureChannelState) (shown : Option Authenticator) → (IsNextOn checks shown → ⊥) → IsBarredBy checks shown → IsRightOf (Some judged.Barred) checks shown
right_barred checks shown none barred = record {
  passed = (λ is. absurd cc, λ next. absurd (none next));
  barred = (λ is. barred, λ so. refl);
  other = (λ is. absurd cc, λ both. absurd (both.1 barred));
}

pub right_passed : (status : ℕ) (checks : Option SecureChannelState) (shown : Option Authenticator) → IsNextOn checks shown → (IsBarredBy checks shown → ⊥) → IsRightOf (Some (judged.Passed status)) checks shown
right_passed status checks shown next free = record {
  passed = (λ is. next, λ so. refl);
  barred = (λ is. absurd cc, λ barred. absurd (free barred));
  other = (λ is. absurd cc, λ both. absurd (both.0 next));
}

none_some : {T : Type 0} {found : Option T} {value : T} → found ≡ None → found ≡ Some value → ⊥
none_some is so = absurd cc

one_some : {T : Type 0} {found : Option T} (value other : T) → found ≡ Some value → found ≡ Some other → value ≡ other
one_some value other is so = cc

-- what has the next authenticator isn't barred
pub next_unbarred : (checks : Option SecureChannelState) (shown : Option Authenticator) → IsNextOn checks shown → IsBarredBy checks shown → ⊥
next_unbarred checks shown next barred =
    barred.fails (subst (λ (g : Authenticator). Passes (key_of_channel barred.channel) barred.channel.seed g) (one_some next.given barred.given next.there barred.there)
    (subst (λ (one : SecureChannelState). Passes (key_of_channel one) one.seed next.given) (one_some next.channel barred.channel next.stands barred.stands) next.passes))

-- an authenticator that is the next one of the channel on which it is checked is the next one of the computer's channel
-- among those that the controller keeps
pub next_of : (computer : Option (List ℕ)) (computers : Computers) (shown : Option Authenticator) → IsNextOn (checked_on computer computers) shown → IsNext computers computer shown
next_of None computers shown next = absurd (none_some refl next.stands)
next_of (Some computer) computers shown next =
    record { computer = computer; given = next.given; channel = next.channel; named = refl; there = next.there; stands = next.stands; passes = next.passes }

abbrev pub on_next : (computer : Option (List ℕ)) (computers : Computers) (shown : Option Authenticator) → IsNext computers computer shown → IsNextOn (checked_on computer computers) shown
on_next computer computers shown next = record {
  channel = next.channel;
  given = next.given;
  stands = ap (λ (name : Option (List ℕ)). checked_on name computers) next.named ∙ next.stands;
  there = next.there;
  passes = next.passes;
}

-- a channel that a call is checked on is that of the computer that it names
named_by : (computer : Option (List ℕ)) (computers : Computers) (channel : SecureChannelState) → checked_on computer computers ≡ Some channel →
    (name : List ℕ) × (computer ≡ Some name) × (lookup same_name name computers.channels ≡ Some channel)
named_by None computers channel is = absurd (none_some refl is)
named_by (Some name) computers channel is = (name, refl, is)

refused_right : (c : JudgedCall) (computers : Computers) (how : Judged) (channels : List (List ℕ × SecureChannelState)) → WhyRefused c computers how channels →
    (IsNextOn (checked_on (computer_named c) computers) (given_in c) → ⊥) → IsRightOf (Some how) (checked_on (computer_named c) computers) (given_in c)
refused_right c computers how channels (Bare none is same) not =
    let checks : Option SecureChannelState = checked_on (computer_named c) computers in
    subst (λ (one : Judged). IsRightOf (Some one) checks (given_in c)) (sym is) (right_none checks (given_in c) not (λ barred.
    let named = named_by (computer_named c) computers barred.channel barred.stands in none_some (none named.0 barred.given named.1 barred.there) named.2))
refused_right c computers how channels (Barred by is back) not =
    let checks : Option SecureChannelState = checked_on (computer_named c) computers in
    subst (λ (one : Judged). IsRightOf (Some one) checks (given_in c)) (sym is) (right_barred checks (given_in c) not (record {
      channel = by.channel;
      given = by.given;
      stands = ap (λ (name : Option (List ℕ)). checked_on name computers) by.named ∙ by.stands;
      there = by.there;
      fails = λ passes. absurd (let never : false ≡ true = sym by.fails ∙ (bytes_eq-Decides _ _).1 passes in cc);
    }))

pub told_by : (c : JudgedCall) (name : List ℕ) (now : ℕ) (line : Line) (d after : Desk) → JudgedComes c name now line d after →
    Told line d.work.actions after.work.actions (checked_on (computer_named c) d.work.computers) (given_in c)
told_by c name now line d after (PassesNext next is) =
    let checks : Option SecureChannelState = checked_on (computer_named c) d.work.computers in
    let done : Done = done_by c next.channel name d.table now d.work.computers.sessions in
    let on : IsNextOn checks (given_in c) = on_next (computer_named c) d.work.computers (given_in c) next in
    record {
      kept = kept_asked (asked_of c) done;
      are_kept = texts_kept (asked_of c) done;
      how = judged.Passed done.status;
      answer = _;
      is = is.actions;
      right = right_passed done.status checks (given_in c) on (next_unbarred checks (given_in c) on);
    }
told_by c name now line d after (Refused how away) = record {
  kept = [];
  are_kept = tt;
  how = how;
  answer = _;
  is = away.actions;
  right = refused_right c d.work.computers how after.work.computers.channels away.why (λ next. away.not_next (next_of (computer_named c) d.work.computers (given_in c) next));
}

-- a call that is judged here isn't handed on
abbrev pub NotForwarded : Judged → Type 0
NotForwarded (judged.Passed status) = Unit {0}
NotForwarded judged.Forwarded = ⊥
NotForwarded (judged.Answered status) = Unit {0}
NotForwarded judged.Barred = Unit {0}
NotForwarded judged.NoChannel = Unit {0}

refused_here : (how : Judged) → is_passed how ≡ false → NotForwarded how
refused_here (judged.Passed status) not = tt
refused_here judged.Forwarded not = absurd (let x = not in cc)
refused_here (judged.Answered status) not = tt
refused_here judged.Barred not = tt
refused_here judged.NoChannel not = tt

pub told_here : (c : JudgedCall) (name : List ℕ) (now : ℕ) (line : Line) (d after : Desk) (comes : JudgedComes c name now line d after) → NotForwarded (told_by c name now line d after comes).how
unfolding told_by
told_here c name now line d after (PassesNext next is) = tt
told_here c name now line d after (Refused how is) = refused_here how is.not_passed

-- of a call, by what it names and shows
pub told_call : (c : JudgedCall) (name : List ℕ) (now : ℕ) (line : Line) (d : Desk) →
    Told line d.work.actions (answer_judged c name now line d).work.actions (checked_on (computer_named c) d.work.computers) (given_in c)
told_call c name now line d = told_by c name now line d (answer_judged c name now line d) (judged_comes c name now line d)

pub how_is : (old after : List Action) (checks : Option SecureChannelState) (shown : Option Authenticator) (line : Line) (told : Told line old after checks shown) → judged_in (drop (length old) after) ≡ Some told.how
how_is old after checks shown line told =
    ap (λ (all : List Action). judged_in (drop (length old) all)) told.is
    ∙ ap judged_in (dropped old (told.kept ++ action.Judged told.how ∷ action.Send line.link told.answer ∷ []))
    ∙ told_kept told.kept told.how (action.Send line.link told.answer) told.are_kept

pub told_right : (old after : List Action) (checks : Option SecureChannelState) (shown : Option Authenticator) (line : Line) → Told line old after checks shown → IsRightOf (judged_in (drop (length old) after)) checks shown
told_right old after checks shown line told = subst (λ (how : Option Judged). IsRightOf how checks shown) (sym (how_is old after checks shown line told)) told.right

-- only a computer that is named has a channel on which the call is checked
pub checked_named : (computer : Option (List ℕ)) (computers : Computers) → IsOfName computer (checked_on computer computers)
checked_named None computers = refl
checked_named (Some computer) computers = tt

pub same_status : (one other : ℕ) → Some (judged.Passed one) ≡ Some (judged.Passed other) → one ≡ other
same_status one other is = cc
