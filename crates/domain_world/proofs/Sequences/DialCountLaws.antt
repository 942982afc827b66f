-- How many dials of an end there are: among what was given, among the dials that wait, and the one that is answered.
-- It serves `Proved.own` and `Proved.one_turn`.
use Rattle.std.proofs.Common.{◌≡◌, ℕ, ◌+◌, ◌≤◌, Bool, true, false, List, [], ◌∷◌, ◌++◌, length, Option, Some, None, refl, ap, ◌∙◌, arith, if◌then◌else◌, sym}
use Rattle.std.specs.Prelude.{not}
use Rattle.std.specs.List.{filter}
use Rattle.outside.specs.declared.action.Action.{Action}
use Rattle.outside.specs.declared.action.Action.TheVariants.{Keep, Send, Dial, Close, Told, Judged}
use Rattle.member_server.specs.Dials.{dial_of, dials_in}
use Rattle.world_moves.specs.declared.links.EndId.{EndId}
use Rattle.world_moves.specs.declared.state.State.{State}
use Rattle.world_moves.specs.declared.state.WaitingDial.{WaitingDial}
use Rattle.world_moves.specs.Acting.{Given, dials_of_action, given_by, is_of_other, perform_quietly}
use Rattle.world_moves.specs.Links.{same_end}
use Rattle.domain_world.specs.Claims.SharedSequences.{dials_of}

abbrev pub one_if : Bool → ℕ
one_if false = 0
one_if true = 1

-- the dials of an action, where its end is the one whose dials are counted
abbrev pub counted : (is_its_end : Bool) → Action → ℕ
counted false what = 0
counted true what = dial_of what

abbrev pub given_dials : EndId → Given → ℕ
given_dials its [] = 0
given_dials its (one ∷ given) = counted (same_end one.0 its) one.1 + given_dials its given

abbrev pub waiting_dials : EndId → List WaitingDial → ℕ
waiting_dials its [] = 0
waiting_dials its (dial ∷ dials) = one_if (same_end dial.end its) + waiting_dials its dials

abbrev pub answered_dials : EndId → Option EndId → ℕ
answered_dials its None = 0
answered_dials its (Some end) = one_if (same_end end its)

-- the dials of an end that weren't answered yet: the one that is answered just now, those that were given and
-- aren't done, and those that wait
abbrev pub dials_out : EndId → Option EndId → Given → List WaitingDial → ℕ
dials_out its d rest dials = answered_dials its d + given_dials its rest + waiting_dials its dials

-- ---- what was given

pub given_append : (its : EndId) (given more : Given) → given_dials its (given ++ more) ≡ given_dials its given + given_dials its more
given_append its [] more = omega arith
given_append its (one ∷ given) more = omega (arith, given_append its given more)

pub given_other : (its : EndId) (end : EndId) (actions : List Action) → same_end end its ≡ false → given_dials its (given_by end actions) ≡ 0
given_other its end [] other = refl
given_other its end (what ∷ actions) other = omega (arith, ap (λ (hit : Bool). counted hit what) other, given_other its end actions other)

pub given_own : (its : EndId) (end : EndId) (actions : List Action) → same_end end its ≡ true → given_dials its (given_by end actions) ≡ dials_in actions
given_own its end [] own = refl
given_own its end (what ∷ actions) own = omega (arith, ap (λ (hit : Bool). counted hit what) own, given_own its end actions own)

-- ---- dials that wait

pub waiting_append : (its : EndId) (dials more : List WaitingDial) → waiting_dials its (dials ++ more) ≡ waiting_dials its dials + waiting_dials its more
waiting_append its [] more = omega arith
waiting_append its (dial ∷ dials) more = omega (arith, waiting_append its dials more)

-- a dial more in the list of an end's dials is one more in their count, if the dial is the end's
counted_more : (hit : Bool) (dial : WaitingDial) (dials : List WaitingDial) (n : ℕ) → length dials ≡ n → length (if hit then dial ∷ dials else dials) ≡ one_if hit + n
counted_more true dial dials n is = omega (arith, is)
counted_more false dial dials n is = omega (arith, is)

pub dials_count : (its : EndId) (dials : List WaitingDial) → length (dials_of its dials) ≡ waiting_dials its dials
dials_count its [] = refl
dials_count its (dial ∷ dials) = counted_more (same_end dial.end its) dial (dials_of its dials) (waiting_dials its dials) (dials_count its dials)

forgotten_one : (keep : Bool) (its : EndId) (end : EndId) (dial : WaitingDial) (dials : List WaitingDial) → waiting_dials its (filter (is_of_other end) dials) ≤ waiting_dials its dials →
    waiting_dials its (if keep then dial ∷ filter (is_of_other end) dials else filter (is_of_other end) dials) ≤ waiting_dials its (dial ∷ dials)
forgotten_one true its end dial dials few = omega (arith, few)
forgotten_one false its end dial dials few = omega (arith, few)

pub forgotten_few : (its : EndId) (end : EndId) (dials : List WaitingDial) → waiting_dials its (filter (is_of_other end) dials) ≤ waiting_dials its dials
forgotten_few its end [] = omega arith
forgotten_few its end (dial ∷ dials) = forgotten_one (is_of_other end dial) its end dial dials (forgotten_few its end dials)

-- where the dials of an end are forgotten, none of them waits
gone_one : (hit : Bool) (its : EndId) (dial : WaitingDial) (dials : List WaitingDial) → same_end dial.end its ≡ hit →
    waiting_dials its (filter (is_of_other its) dials) ≡ 0 → waiting_dials its (filter (is_of_other its) (dial ∷ dials)) ≡ 0
gone_one true its dial dials is none =
    ap (λ (hit : Bool). waiting_dials its (if not hit then dial ∷ filter (is_of_other its) dials else filter (is_of_other its) dials)) is ∙ none
gone_one false its dial dials is none =
    ap (λ (hit : Bool). waiting_dials its (if not hit then dial ∷ filter (is_of_other its) dials else filter (is_of_other its) dials)) is
    ∙ omega (arith, ap one_if is, none)

pub gone_all : (its : EndId) (dials : List WaitingDial) → waiting_dials its (filter (is_of_other its) dials) ≡ 0
gone_all its [] = refl
gone_all its (dial ∷ dials) = gone_one (same_end dial.end its) its dial dials refl (gone_all its dials)

-- ---- an action is done

pub none_counted : (hit : Bool) (what : Action) → dial_of what ≡ 0 → counted hit what ≡ 0
none_counted false what none = refl
none_counted true what none = none

one_counted : (hit : Bool) (peer : List ℕ) → counted hit (Dial peer) ≡ one_if hit
one_counted false peer = refl
one_counted true peer = refl

dials_counted : (its : EndId) (end : EndId) (what : Action) → waiting_dials its (dials_of_action end what) ≡ counted (same_end end its) what
dials_counted its end (Dial peer) = omega (arith, one_counted (same_end end its) peer)
dials_counted its end (Keep bytes) = sym (none_counted (same_end end its) (Keep bytes) refl)
dials_counted its end (Send link bytes) = sym (none_counted (same_end end its) (Send link bytes) refl)
dials_counted its end (Close link cause) = sym (none_counted (same_end end its) (Close link cause) refl)
dials_counted its end (Told link outcome) = sym (none_counted (same_end end its) (Told link outcome) refl)
dials_counted its end (Judged how) = sym (none_counted (same_end end its) (Judged how) refl)

-- it was out as much before
pub done_same : (its : EndId) (d : Option EndId) (rest : Given) (end : EndId) (what : Action) (s : State) →
    dials_out its d rest (perform_quietly end what s).dials ≡ dials_out its d ((end, what) ∷ rest) s.dials
done_same its d rest end what s = omega (arith, waiting_append its s.dials (dials_of_action end what), dials_counted its end what)
