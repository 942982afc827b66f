-- What a controller accepts and judges in a step at one unit of the bag: an opening of the member's computer has the
-- hash of its account, and a call by which a secret of the account is set is on the channel that was accepted last.
-- It serves `Proved.never_apart`.
use Rattle.std.proofs.Common.{◌≡◌, ℕ, ◌+◌, ◌≤◌, ◌==◌, Bool, true, false, List, [], ◌∷◌, ◌++◌, length, map, inl, inr, Option, Some, None, slice_get, refl, sym, ap, subst, ◌∙◌, arith}
use Rattle.std.specs.Prelude.{◌&&◌, bytes_eq}
use Rattle.std.specs.List.{AllByRecursion}
use Rattle.std.specs.Option.{option_map}
use Rattle.std.proofs.lemmas.Bool.Decides.{Decides-eqb}
use Rattle.wire_base.specs.Names.{SameName, same_name, upper_case}
use Rattle.wire_base.proofs.ListLaws.{all_weaker, some_is}
use Rattle.authenticators.specs.Channels.{ChannelIdentity, channel_key}
use Rattle.authenticators.specs.SecureChannels.{SecureChannelState, channel_of, key_of_channel}
use Rattle.authenticators.proofs.ChannelLaws.{channel_key-same}
use Rattle.rpc_units.specs.Calls.{IsHeard}
use Rattle.rpc_units.specs.declared.unit.Unit.{Unit as RpcUnit}
use Rattle.secret_change.specs.Secrets.{SecretsState}
use Rattle.secret_change.specs.declared.calls.SetCall.{SetCall}
use Rattle.account_table.specs.AccountTable.{AccountTable}
use Rattle.account_table.specs.Changes.{DifferInStates}
use Rattle.account_table.specs.LookUps.{machine_in}
use Rattle.account_table.specs.declared.account.Account.{Account}
use Rattle.channel_client.specs.Effects.{number_in, stands_in, step_in, view_of}
use Rattle.channel_client.specs.State.{Requester}
use Rattle.channel_client.specs.declared.state.Standing.{Standing}
use Rattle.channel_events.specs.Marks.{Calling, Mark, Opening}
use Rattle.channel_events.specs.Requests.{Requests}
use Rattle.channel_events.specs.SecretOrder.{IsIn, OthersPassed}
use Rattle.channel_events.proofs.SameLaws.{same_back, same_on}
use Rattle.controller_calls.specs.declared.calls.ControllerCall.TheVariants as call
use Rattle.controller_calls.specs.declared.calls.JudgedCall.{JudgedCall}
use Rattle.controller_calls.specs.declared.calls.JudgedCall.TheVariants.{Interactive, Logoff, Network, NetworkLogoff, Set}
use Rattle.domain_controller.specs.Hearing.{hear}
use Rattle.domain_controller.specs.Machine.{Desk}
use Rattle.domain_controller.specs.State.{State as ControllerState}
use Rattle.domain_controller.specs.declared.state.Talk.{Talk}
use Rattle.domain_controller.proofs.TrustPlaceLaws.{got_all}
use Rattle.end_links.specs.Serving.{ServedUnit}
use Rattle.member_server.specs.State.{State as MemberState}
use Rattle.step_notes.specs.ControllerNotes.{Answered, Where, answer_on, has_passed, units_of_controller}
use Rattle.step_notes.specs.HeardWhole.{call_carried}
use Rattle.step_notes.specs.Judged.{IsJudgedRight, passed_channel}
use Rattle.step_notes.specs.Records.{Book, ChannelAccepted, InUnit, Judging, Outside, Source, computer_named}
use Rattle.step_notes.specs.Served.{work_after}
use Rattle.world_moves.specs.declared.bag.BagUnit.{BagUnit}
use Rattle.world_moves.specs.declared.links.EndId.TheVariants.{Controller}
use Rattle.world_moves.specs.declared.moves.Move.{Move}
use Rattle.world_moves.specs.declared.plan.Plan.{Plan}
use Rattle.world_moves.specs.declared.state.State.{State}
use Rattle.world_moves.specs.Acting.{Given}
use Rattle.world_moves.specs.Alone.{IsPlainAlone, alone_controller_step as controller_step}
use Rattle.world_moves.specs.Forms.{IsSchedule}
use Rattle.outside.specs.declared.event.Event.TheVariants as event
use Rattle.domain_world.specs.Accepting.Carried.{IsWholeUnit}
use Rattle.domain_world.specs.Accepting.SeenSteps.{Differ}
use Rattle.domain_world.specs.Accepting.Units.{UnitsAreHeard}
use Rattle.domain_world.specs.Claims.{IsClear}
use Rattle.domain_world.specs.Claims.AcceptedOpenings.{is_in_unit}
use Rattle.domain_world.specs.Claims.Hashes.{hash_after, hash_at}
use Rattle.domain_world.specs.Claims.NeverApart.{BeginsAlike, has_foreign_set}
use Rattle.domain_world.specs.Claims.Openings.{IsLastAccepted, is_opened_for, last_accepted, newer_if}
use Rattle.domain_world.specs.Claims.Tables.{accounts_after}
use Rattle.domain_world.specs.Past.{Delivery, accepted_of, at_controller, controller_of_plan, first_of, judged_of, later_of, numbers_on, onto, past, replied_with}
use Rattle.domain_world.proofs.Frames.AloneNoteLaws.{alone_answers as answers_of, note_controller_alone as note_controller}
use Rattle.domain_world.proofs.Acceptance.AnsweredLaws.{StandsFor, channel_there}
use Rattle.domain_world.proofs.Acceptance.CarriedLaws.{IsRequested, called}
use Rattle.domain_world.proofs.Acceptance.Heard.JudgedRunLaws.{judged_stand}
use Rattle.domain_world.proofs.Acceptance.Heard.JudgedUnitLaws.{AllHeardSo, IsCarriedCall, IsJudgedWell, IsWholeCarried, answer_holds, any_heard, whole_carried}
use Rattle.domain_world.proofs.Acceptance.Heard.MarkSentLaws.{AreItsNames, HasItsNames}
use Rattle.domain_world.proofs.Acceptance.Heard.MarkWholeLaws.{MarksFit}
use Rattle.wire_base.proofs.ListPlaceLaws.{all_by_place}
use Rattle.domain_world.proofs.Quiet.QuietStepLaws.{QuietState}
use Rattle.domain_world.proofs.Acceptance.ScheduleLaws.{units_heard}
use Rattle.domain_world.proofs.Apart.AcceptedHashLaws.{IsOfUnit, JudgesBy, OpensBy, not_both, unit_answers}
use Rattle.domain_world.proofs.Apart.AskedNamesLaws.{asked_names, opening_names}
use Rattle.domain_world.proofs.Apart.MachinePlaceLaws.{its_computer, its_machine}
use Rattle.domain_world.proofs.Apart.OrderToldLaws.{IsOpeningOf, OpensIn, Told, all_from, all_items, controller_earlier, its_mark}
use Rattle.domain_world.proofs.Apart.TogetherAsksLaws.{asks_in, asks_shown}
use Rattle.domain_world.proofs.Apart.TogetherBesideLaws.{beside_has}
use Rattle.domain_world.proofs.Apart.TogetherBookLaws.{AllJudgedSo, HasHash, IsTakenSo, Pairing, channel_of_one, hash_is, hash_now, is_place, is_taken, keeps_now, passed_units, sets_by, sets_on, sides_now}
use Rattle.domain_world.proofs.Apart.TogetherFrameLaws.{ControllerKnown, HasHelp, IsOutOf, calls_were, its_items, its_judgings, its_requests, noted}
use Rattle.domain_world.proofs.Apart.TogetherKnownLaws.{LeadsTo, earlier_on, leads, to_itself}
use Rattle.domain_world.proofs.Apart.TogetherLastLaws.{IsSetOut, Leads, ends_last, later_in, open_by, set_out, waits_set}
use Rattle.domain_world.proofs.Apart.TogetherMoveLaws.{IsBehindController}
use Rattle.domain_world.proofs.Apart.TogetherPassLaws.{AllTaken, all_before, all_of_items, judged_by_last, schedules_pass_once}
use Rattle.domain_world.proofs.Apart.TogetherRunLaws.{found_at, its_place}
use Rattle.domain_world.proofs.Apart.TogetherSetLaws.{Known, differ_at, distinct, fits, pair, place, still_stepped}
use Rattle.domain_world.proofs.Apart.TogetherTakeLaws.{IsSetReply, set_waits, stands_of}
use Rattle.domain_world.proofs.Apart.ToldRunLaws.{schedules_tell}
use Rattle.domain_world.proofs.Moves.ComingLaws.{CameFrom, IsStill, StillHas, kept_on}
use Rattle.domain_world.proofs.Frames.MoveKeepLaws.{coming}
use Rattle.domain_world.proofs.Moves.OpenMadeLaws.{IsAtSide}
use Rattle.domain_world.proofs.Judgements.GrantLaws.{IsByPlan, stand_after}
use Rattle.domain_world.proofs.Judgements.HashLaws.{after_hash}
use Rattle.domain_world.proofs.Judgements.JudgedLaws.{HoldsIf, judged_hold, judged_rightly}
use Rattle.domain_world.proofs.Judgements.MovedLaws.{IsFound, found_in}
use Rattle.domain_world.proofs.Judgements.Openings.OpeningMarkLaws.{accepts_so}
use Rattle.domain_world.proofs.Judgements.ReplyLaws.{replies_carry}
use Rattle.domain_world.proofs.Judgements.UnclashedLaws.{passes_unclashed}
use Rattle.domain_world.proofs.Calls.CallHoldsLaws.{mark_there, marks_in}
use Rattle.domain_world.proofs.Calls.CallStepLaws.{most_steps}
use Rattle.domain_world.proofs.Calls.MarkWayLaws.{marks_have_their_way}
use Rattle.domain_world.proofs.Calls.StepApartLaws.{seen_member}

-- ---- what is written down of the step

holds_if : (P : Judging → Type 0) (found : Option Judging) → ((j : Judging) → found ≡ Some j → P j) → HoldsIf P found
holds_if P None so = tt
holds_if P (Some j) so = so j refl

-- of the channels that were accepted, as they are written down, each with its reply
module _ (P : ChannelAccepted → Type 0) (replied : (one : ChannelAccepted) (number : Option ℕ) → P one → P (record one { reply = number })) where
  first_accepted : (found : Option ChannelAccepted) (number : Option ℕ) (later : List ChannelAccepted) → ((one : ChannelAccepted) → found ≡ Some one → P one) → AllByRecursion P later →
      AllByRecursion P (replied_with found number ++ later)
  first_accepted None number later so all = all
  first_accepted (Some one) number later so all = (replied one number (so one refl), all)

  accepted_hold : (answers : List Answered) (numbers : List ℕ) → AllByRecursion (λ (one : Answered). (a : ChannelAccepted) → one.accepted ≡ Some a → P a) answers → AllByRecursion P (accepted_of answers numbers)
  accepted_hold [] numbers all = tt
  accepted_hold (one ∷ answers) numbers all =
      first_accepted one.accepted (first_of numbers) (accepted_of answers (later_of one.sends numbers)) all.0 (accepted_hold answers (later_of one.sends numbers) all.1)

-- each call came from where the bytes did, at that controller
abbrev CameThere : Where → Judging → Type 0
CameThere w j = (j.source ≡ w.source) × (j.controller ≡ w.controller)

served_there : (w : Where) (link : ℕ) (units : List (ServedUnit Desk Talk)) → AllHeardSo (λ number asked. Unit {0}) link units →
    AllByRecursion (λ (one : Answered). HoldsIf (CameThere w) one.judging) (map (answer_on link w) units)
served_there w link [] all = tt
served_there w link (unit ∷ units) all = (
  answer_holds (CameThere w) (λ number asked. Unit {0}) (hear link unit.bytes unit.talk) w unit.work (work_after unit.part) (λ line asked is. (refl, refl)) all.0,
  served_there w link units all.1,
)

judged_there : (at : ℕ) (c : ControllerState) (w : Delivery) (piece : List ℕ) (s : State) (numbers : List ℕ) → AllByRecursion (CameThere (at_controller at c w s)) (judged_of (answers_of at c w piece s) numbers)
judged_there at c w piece s numbers =
    let units : List (ServedUnit Desk Talk) = units_of_controller c w.link piece s.moment s.chances.left in
    judged_hold (CameThere (at_controller at c w s)) (λ j number is. is) (answers_of at c w piece s) numbers
    (served_there (at_controller at c w s) w.link units (any_heard (λ number asked. Unit {0}) w.link units (λ number asked. tt)))

-- where a call is judged none is an opening
none_first : (controller : ℕ) (unit : RpcUnit) (table : AccountTable) (asked : JudgedCall) (found : Option ChannelAccepted) (number : Option ℕ) (later : List ChannelAccepted) →
    ((a : ChannelAccepted) → found ≡ Some a → OpensBy controller unit table a) → call_carried unit.body ≡ Some (call.Judged asked) → later ≡ [] →
    replied_with found number ++ later ≡ []
none_first controller unit table asked None number later opens carried none = none
none_first controller unit table asked (Some a) number later opens carried none =
    let opened : OpensBy controller unit table a = opens a refl in absurd (not_both (call_carried unit.body) opened.asked asked opened.carried carried)

none_accepted : (controller : ℕ) (unit : RpcUnit) (accepted : List ChannelAccepted) (table : AccountTable) (asked : JudgedCall) (answers : List Answered) (numbers : List ℕ) →
    call_carried unit.body ≡ Some (call.Judged asked) → AllByRecursion (IsOfUnit controller unit accepted table) answers → accepted_of answers numbers ≡ []
none_accepted controller unit accepted table asked [] numbers carried all = refl
none_accepted controller unit accepted table asked (one ∷ answers) numbers carried all =
    none_first controller unit table asked one.accepted (first_of numbers) (accepted_of answers (later_of one.sends numbers)) all.0.opens carried
    (none_accepted controller unit accepted table asked answers (later_of one.sends numbers) carried all.1)

-- ---- names

alike_opened : (controller : ℕ) (one other : List ℕ) → SameName one other → (a : ChannelAccepted) → is_opened_for controller one a ≡ is_opened_for controller other a
unfolding same_name
alike_opened controller one other same a =
    ap (λ (upper : List ℕ). (a.channel.controller == controller) && bytes_eq upper (upper_case a.channel.computer)) same

last_alike : (controller : ℕ) (one other : List ℕ) → SameName one other → (accepted : List ChannelAccepted) → last_accepted controller one accepted ≡ last_accepted controller other accepted
last_alike controller one other same [] = refl
last_alike controller one other same (a ∷ older) =
    ap (λ (hit : Bool). newer_if hit a (last_accepted controller one older)) (alike_opened controller one other same a)
    ∙ ap (λ (found : Option ChannelAccepted). newer_if (is_opened_for controller other a) a found) (last_alike controller one other same older)

-- ---- a call that sets a secret of the account

both_of : (one other : Bool) → (one && other) ≡ true → (one ≡ true) × (other ≡ true)
both_of true true is = (refl, refl)
both_of true false is = absurd (let never = is in cc)
both_of false other is = absurd (let never = is in cc)

place_found : (found : Option ℕ) (place : ℕ) → is_place found place ≡ true → found ≡ Some place
place_found None place is = absurd (let never = is in cc)
place_found (Some at) place is = ap Some ((Decides-eqb at place).0 is)

record SetsAt (asked : JudgedCall) (table : AccountTable) (place : ℕ) : Type 0 where
  own : SetCall
  is : asked ≡ Set own
  found : machine_in table.accounts own.account own.channel own.computer ≡ Some place

sets_at : (asked : JudgedCall) (table : AccountTable) (place : ℕ) → sets_by asked table place ≡ true → SetsAt asked table place
sets_at (Network c) table place sets = absurd (let never = sets in cc)
sets_at (Interactive c) table place sets = absurd (let never = sets in cc)
sets_at (Logoff c) table place sets = absurd (let never = sets in cc)
sets_at (NetworkLogoff c) table place sets = absurd (let never = sets in cc)
sets_at (Set c) table place sets = record { own = c; is = refl; found = place_found (machine_in table.accounts c.account c.channel c.computer) place sets }

sets_if : (checks : Option SecureChannelState) (j : Judging) (place : ℕ) → sets_on checks j place ≡ true → SetsAt j.asked j.table place
sets_if None j place sets = absurd (let never = sets in cc)
sets_if (Some channel) j place sets = sets_at j.asked j.table place sets

-- ---- a controller

module _ (plan : Plan) (moves : List Move) (nobody : IsPlainAlone plan) (schedule : IsSchedule plan moves) (clear : IsClear (past plan moves).book)
    (none_foreign : has_foreign_set (past plan moves).book.judged ≡ false) (member : ℕ) (begins : BeginsAlike plan member) where
  abbrev last : Book
  last = (past plan moves).book

  abbrev bag : List BagUnit
  bag = (past plan moves).world.state.bag

  abbrev k : ℕ
  k = begins.controller

  abbrev its : ℕ
  its = place plan moves nobody schedule clear member begins

  abbrev its_pair : Pairing
  its_pair = pair plan moves nobody schedule clear member begins

  abbrev its_fits : MarksFit bag last
  its_fits = fits plan moves nobody schedule clear member begins

  -- what the last book tells of a call that was judged: it was requested, if it passed
  record LastKnows (j : Judging) : Type 0 where
    right : IsJudgedRight j
    well : IsJudgedWell bag j
    by : IsByPlan plan j
    requested : (channel : ChannelIdentity) (n : ℕ) → passed_channel j ≡ Some channel → j.source ≡ InUnit n → IsRequested (past plan moves) channel j.number n

  all_last : AllByRecursion LastKnows last.judged
  all_last =
      let heard : UnitsAreHeard (past plan moves) = units_heard plan moves nobody schedule in
      all_by_place LastKnows last.judged (λ at j there. record {
        right = got_all IsJudgedRight last.judged at j (judged_rightly plan moves) there;
        well = got_all (IsJudgedWell bag) last.judged at j (judged_stand plan moves nobody schedule).judged there;
        by = got_all (IsByPlan plan) last.judged at j (stand_after plan moves nobody).judged there;
        requested = λ channel n passed came.
            called (past plan moves) heard.whole (marks_have_their_way plan moves nobody.plain) heard.judged (passes_unclashed plan moves) (replies_carry plan moves nobody) heard.numbers clear.apart at channel j n
            j.number there passed came refl;
      })

  module _ (n at : ℕ) (c : ControllerState) (w : Delivery) (piece : List ℕ) (s after : State) (given : Given) (b : Book) (is : slice_get s.ends.controllers at ≡ Some c)
      (here : IsAtSide s.links w.link w.back (Controller at)) (came : CameFrom w.source s w piece) (even : length b.sent ≡ length s.bag) (help : HasHelp its_pair n [] s given b)
      (known : Known plan moves nobody schedule clear member begins n w s given b) (few : n + 1 ≤ most_steps) (differ : Differ s.chances.drawn) (behind : IsBehindController at c w piece s after)
      (to : LeadsTo bag last after.bag (note_controller (Some c) at w piece s after b)) where
    abbrev now : Book
    now = noted its_pair n at c w piece s after b

    abbrev items : List ChannelAccepted
    items = its_items its_pair n at c w piece s after b

    abbrev judgings : List Judging
    judgings = its_judgings its_pair n at c w piece s after b

    abbrev answers : List Answered
    answers = answers_of at c w piece s

    abbrev numbers : List ℕ
    numbers = numbers_on w.link true s.bag after.bag

    abbrev r : Requests ℕ
    r = its_requests its_pair n at c w piece s after b

    told : Told now
    told = (leads bag last (schedules_tell plan moves nobody schedule clear.apart)).told after.bag now to

    still_last : StillHas s.bag bag
    still_last =
        let after_so : StillHas s.bag after.bag =
        subst (λ (x : State). StillHas s.bag x.bag) (sym behind) (still_stepped (Controller at) (controller_step (Some c) at (event.Bytes w.link piece) s.moment s.ends s.chances) s) in
        kept_on s.bag after.bag bag after_so to.still

    leads_was : Leads plan moves nobody schedule clear s b
    leads_was = record {
      still = still_last;
      earlier = earlier_on b now last (controller_earlier c at w piece s after b even) to.earlier;
      ends = ends_last plan moves nobody schedule clear s (beside_has plan member begins its (asks_in bag last its_fits) n (coming w) s given b known).0.0.0.1.0.1;
    }

    -- the calls of the step, by the last book
    all_now : AllByRecursion LastKnows judgings
    all_now =
        all_of_items LastKnows judgings b.judged
        (all_before LastKnows to.earlier.judgings now.judged (subst (λ (js : List Judging). AllByRecursion LastKnows js) to.earlier.judged all_last))

    came_there : AllByRecursion (CameThere (at_controller at c w s)) judgings
    came_there = judged_there at c w piece s numbers

    -- the unit has its mark in the last book
    last_mark : (u : ℕ) → w.source ≡ InUnit u → (mark : Mark) → slice_get (marks_in last.sent) u ≡ Some mark → slice_get (marks_in now.sent) u ≡ Some mark
    last_mark u from mark marked =
        let own = its_mark (record { who = member; controller = k; computer = begins.own.computer; accepted = [] }) n c at w piece s after b came even u from in
        own.1 ∙ ap (λ (m : Mark). Some m) (some_is own.0 mark (sym (to.earlier.marks u own.0 own.1) ∙ marked))

    -- ---- others passed

    module _ (held : SecretsState) (out : Option ℕ) (is_out : (unit : ℕ) → out ≡ Some unit → IsOutOf its_pair n at c w piece s after b unit) where
      others_so : (accepted : List ChannelAccepted) (earlier : List Judging) → ((u : ℕ) → IsIn u (passed_units b.judged) → IsIn u (passed_units earlier)) → (unit : ℕ) → out ≡ Some unit →
          OthersPassed r member k begins.own.computer (sides_now its_pair accepted earlier held out) (Some unit)
      others_so accepted earlier more unit is_unit =
          let its_out : IsOutOf its_pair n at c w piece s after b unit = is_out unit is_unit in
          let channel : Requester = its_out.running.logons.channel in
          let stands_at : Option ChannelIdentity = stands_in k channel.caller.computer channel.standing in
          let waits : IsSetReply (step_in channel.turn) =
          waits_set (step_in channel.turn) (number_in channel.turn) stands_at (marks_in b.sent) its_out.ties.out unit its_out.ties.waits its_out.out in
          let stood = open_by channel.standing (step_in channel.turn) waits its_out.ties.coherent.matches in
          let d : ChannelIdentity = channel_of k channel.caller.computer stood.0 in
          let stands : stands_at ≡ Some d = ap (λ (how : Standing). stands_in k channel.caller.computer how) stood.1 in
          let set : IsSetOut b channel d =
          set_out plan moves nobody schedule clear n s given b known.0.0.0.1.0.1 leads_was (omega (arith, few)) differ member k its_out.running its_out.is help.asks waits d stands in
          let same : unit ≡ set.unit =
          some_is unit set.unit
          (sym its_out.out
          ∙ set_waits (step_in channel.turn) (number_in channel.turn) set.unit set.timestamp stands_at d (marks_in b.sent) its_out.ties.out waits its_out.ties.waits stands set.there) in
          record {
            view = view_of k channel;
            at = ap (λ (x : Option MemberState). seen_member (controller_of_plan (slice_get s.member_plans member) s.ends) x) its_out.is
                ∙ ap (λ (kk : ℕ). seen_member kk (Some (record { running = Some its_out.running }))) help.asks;
            channel = d;
            stands = stands;
            of = stands_of k channel.caller.computer begins.own.computer channel.standing d (help.named (omega (arith, few)) differ its_out.running its_out.is) stands;
            passed = λ u number stamp e there client. elim (set.others u number stamp e (calls_were its_pair n at c w piece s after b u number stamp e there) client) [
              | inl own ↦ inl (ap (λ (x : ℕ). Some x) (same ∙ sym own))
              | inr passed ↦ inr (more u passed)
            ];
          }

      -- ---- a unit of the bag

      module _ (number : ℕ) (source : w.source ≡ InUnit number) (carried : IsWholeCarried s number w piece) (all : AllByRecursion (IsOfUnit at carried.send.unit b.accepted c.table) answers) where
        -- the carried unit, as the last bag has it
        abbrev still : IsStill carried.unit bag number
        still = still_last number carried.unit carried.there

        abbrev whole_last : IsWholeUnit still.now.bytes
        whole_last = record {
          frames = carried.send.frames;
          unit = carried.send.unit;
          heard = subst (λ (bytes : List ℕ). IsHeard bytes carried.send.frames carried.send.unit) (sym still.bytes) carried.send.heard;
        }

        -- an opening
        opening_hash : (one : ChannelAccepted) → one.source ≡ w.source → OpensIn (marks_in now.sent) one → OpensBy at carried.send.unit c.table one → HasHash its_pair r held out b.judged one
        opening_hash one from opens opened came_so of =
            let own = its_mark (record { who = member; controller = k; computer = begins.own.computer; accepted = [] }) n c at w piece s after b came even number source in
            let opening : IsOpeningOf own.0 one.channel = opens number own.0 (from ∙ source) own.1 in
            let marked : slice_get (marks_in last.sent) number ≡ Some (Opening opening.named opening.number) = to.earlier.marks number own.0 own.1 ∙ ap (λ (m : Mark). Some m) opening.is in
            let names : AreItsNames opening.named opened.asked.account opened.asked.computer opened.asked.channel =
            opening_names bag last its_fits number opening.named opening.number marked still.now still.there whole_last opened.asked opened.carried in
            let at_own : at ≡ k = sym opened.opened.controller_is ∙ of.controller_is in
            let by = known.0.1.each at c is in
            let table : by.planned ≡ begins.table = some_is by.planned begins.table (sym by.is ∙ ap (slice_get plan.tables) at_own ∙ begins.is_table) in
            let differ_so : DifferInStates begins.table c.table = subst (λ (t : AccountTable). DifferInStates t c.table) table by.states in
            let found = found_at c.table.accounts opened.opened.account (machine_in c.table.accounts opened.asked.account opened.asked.channel opened.asked.computer) opened.opened.found in
            let same : SameName opened.asked.computer begins.own.computer = subst (λ (name : List ℕ). SameName name begins.own.computer) opened.opened.computer of.computer_is in
            let here_so : found.0 ≡ its =
            its_machine begins.table c.table (distinct plan moves nobody schedule clear member begins) differ_so begins.own.computer its (its_place plan member begins).found opened.asked.computer
            opened.asked.channel found.0 same
            (ap (λ (a : List ℕ). machine_in c.table.accounts a opened.asked.channel opened.asked.computer) (sym names.account_is) ∙ found.1) in
            let hash : hash_at c.table its ≡ Some one.channel.secret =
            ap (λ (kk : ℕ). hash_at c.table kk) (sym here_so) ∙ ap (option_map (λ (a : Account). a.hash)) found.2 ∙ ap (λ (h : List ℕ). Some h) (sym opened.opened.secret) in
            let stand = known.0.0.1 in
            let left : c.table ≡ accounts_after begins.table at b.judged = stand.each at c is begins.table (ap (slice_get plan.tables) at_own ∙ begins.is_table) in
            let after_so : hash_at c.table its ≡ hash_after (hash_at begins.table its) at its b.judged =
            ap (λ (t : AccountTable). hash_at t its) left ∙ after_hash plan begins.table its b.judged stand.judged at (ap (slice_get plan.tables) at_own ∙ begins.is_table) in
            let first : hash_at begins.table its ≡ Some begins.secret =
            ap (option_map (λ (a : Account). a.hash)) (its_place plan member begins).there ∙ ap (λ (h : List ℕ). Some h) begins.hash in
            some_is one.channel.secret (hash_now begins.secret k its b.judged)
            (sym hash ∙ after_so ∙ ap (λ (kk : ℕ). hash_after (hash_at begins.table its) kk its b.judged) at_own
            ∙ ap (λ (found : Option (List ℕ)). hash_after found k its b.judged) first ∙ hash_is begins.secret k its b.judged)

        opening_all : (some : List ChannelAccepted) → AllByRecursion (λ (one : ChannelAccepted). one.source ≡ w.source) some → AllByRecursion (OpensIn (marks_in now.sent)) some →
            AllByRecursion (OpensBy at carried.send.unit c.table) some → AllByRecursion (HasHash its_pair r held out b.judged) some
        opening_all [] from opens opened = tt
        opening_all (one ∷ some) from opens opened = (opening_hash one from.0 opens.0 opened.0, opening_all some from.1 opens.1 opened.1)

        unit_hashes : AllByRecursion (HasHash its_pair r held out b.judged) items
        unit_hashes =
            opening_all items (all_from w.at w.source answers numbers (accepts_so (at_controller at c w s) w.link (units_of_controller c w.link piece s.moment s.chances.left)))
            (all_items (OpensIn (marks_in now.sent)) items b.accepted told.openings)
            (accepted_hold (OpensBy at carried.send.unit c.table) (λ one reply opened. record {
              asked = opened.asked;
              carried = opened.carried;
              opened = record {
                account = opened.opened.account;
                found = opened.opened.found;
                secret = opened.opened.secret;
                computer = opened.opened.computer;
                controller_is = opened.opened.controller_is;
              };
            }) answers numbers (all_weaker (IsOfUnit at carried.send.unit b.accepted c.table) (λ (one : Answered). (a : ChannelAccepted) → one.accepted ≡ Some a → OpensBy at carried.send.unit c.table a)
            answers (λ one of. of.opens) all))

        -- a call that sets a secret of the account
        taken_so : (j : Judging) (earlier : List Judging) → ((u : ℕ) → IsIn u (passed_units b.judged) → IsIn u (passed_units earlier)) → CameThere (at_controller at c w s) j →
            JudgesBy at carried.send.unit b.accepted j → LastKnows j → (u : ℕ) → j.source ≡ InUnit u → is_taken k its j ≡ true → IsTakenSo its_pair r held out (onto items b.accepted) earlier j u
        taken_so j earlier more where_so judges knows u from taken =
            let two = both_of ((j.controller == k) && has_passed j.how) (sets_on j.checks j its) taken in
            let one = both_of (j.controller == k) (has_passed j.how) two.0 in
            let own : j.controller ≡ k = (Decides-eqb j.controller k).0 one.0 in
            let sets : SetsAt j.asked j.table its = sets_if j.checks j its two.1 in
            let stands : StandsFor j = channel_there j knows.right one.1 in
            let asked : IsRequested (past plan moves) stands.channel j.number u = knows.requested stands.channel u stands.passed from in
            let marked : slice_get (marks_in last.sent) u ≡ Some (Calling asked.named j.number asked.timestamp) =
            mark_there last.sent u asked.sent asked.there ∙ ap (λ (m : Mark). Some m) asked.mark in
            let own_call : IsCarriedCall bag j.number j.asked u = knows.well.carried u from in
            let found : IsFound j.controller (computer_named j.asked) j.checks stands.channel = found_in j.controller (computer_named j.asked) j.checks stands.channel stands.found in
            let names : AreItsNames asked.named sets.own.account sets.own.computer sets.own.channel =
            subst (HasItsNames asked.named) sets.is (asked_names bag last its_fits u asked.named j.number asked.timestamp marked own_call.carrier own_call.there own_call.whole j.asked own_call.carried) in
            let computer : SameName sets.own.computer begins.own.computer =
            its_computer begins.table j.table (distinct plan moves nobody schedule clear member begins) (differ_at plan moves nobody schedule clear member begins j knows.by own) begins.own.computer its
            (its_place plan member begins).found begins.account (its_place plan member begins).there sets.own.computer sets.own.channel
            (ap (λ (a : List ℕ). machine_in j.table.accounts a sets.own.channel sets.own.computer) (sym names.account_is) ∙ sets.found) in
            let kept : IsLastAccepted at sets.own.computer stands.channel b.accepted =
            judges.keeps sets.own.computer stands.channel (ap computer_named sets.is) stands.found in
            let none : items ≡ [] = none_accepted at carried.send.unit b.accepted c.table j.asked answers numbers judges.carried all in
            let accepted : onto items b.accepted ≡ b.accepted = ap (λ (some : List ChannelAccepted). onto some b.accepted) none in
            record {
              channel = asked.named;
              number = j.number;
              timestamp = asked.timestamp;
              mark = last_mark u (sym where_so.0 ∙ from) (Calling asked.named j.number asked.timestamp) marked;
              asks = asks_shown bag last its_fits bag last (to_itself bag last) u asked.named j.number asked.timestamp marked j its own_call two.1
                  (λ state checks.
                  channel_key-same asked.named stands.channel asked.same ∙ sym (ap channel_key found.is) ∙ ap key_of_channel (some_is found.state state (sym found.stands ∙ checks)));
              kept = kept.one.channel;
              keeps = ap (λ (some : List ChannelAccepted). keeps_now its_pair some) accepted
                  ∙ ap (option_map channel_of_one)
                  (sym (last_alike k sets.own.computer begins.own.computer computer b.accepted) ∙ ap (λ (kk : ℕ). last_accepted kk sets.own.computer b.accepted) (sym own ∙ where_so.1) ∙ kept.last);
              same = same_on asked.named stands.channel kept.one.channel asked.same (same_back kept.one.channel stands.channel kept.same);
              others = λ unit is_unit. others_so (onto items b.accepted) earlier more unit is_unit;
            }

        taken_all : (some earlier : List Judging) → ((u : ℕ) → IsIn u (passed_units b.judged) → IsIn u (passed_units earlier)) → AllByRecursion (CameThere (at_controller at c w s)) some →
            AllByRecursion (JudgesBy at carried.send.unit b.accepted) some → AllByRecursion LastKnows some → AllTaken its_pair r held out (onto items b.accepted) some earlier
        taken_all [] earlier more where_so judges knows = tt
        taken_all (j ∷ some) earlier more where_so judges knows = (
          taken_so j earlier more where_so.0 judges.0 knows.0,
          taken_all some (j ∷ earlier) (λ u passed. later_in (has_passed j.how) j.source u (passed_units earlier) (more u passed)) where_so.1 judges.1 knows.1,
        )

        unit_taken : AllTaken its_pair r held out (onto items b.accepted) judgings b.judged
        unit_taken =
            taken_all judgings b.judged (λ u passed. passed) came_there
            (judged_hold (JudgesBy at carried.send.unit b.accepted) (λ j reply judges. record { carried = judges.carried; keeps = judges.keeps }) answers numbers
            (all_weaker (IsOfUnit at carried.send.unit b.accepted c.table) (λ (one : Answered). HoldsIf (JudgesBy at carried.send.unit b.accepted) one.judging)
            answers (λ one of. holds_if (JudgesBy at carried.send.unit b.accepted) one.judging of.judges) all)) all_now

      -- ---- bytes from outside

      outside_hashes : w.source ≡ Outside → (some : List ChannelAccepted) → AllByRecursion (λ (one : ChannelAccepted). one.source ≡ w.source) some → AllByRecursion (HasHash its_pair r held out b.judged) some
      outside_hashes out_there [] from = tt
      outside_hashes out_there (one ∷ some) from = (
        λ came_so of. absurd (let never : false ≡ true = sym (ap is_in_unit (from.0 ∙ out_there)) ∙ came_so in let x = never in cc),
        outside_hashes out_there some from.1,
      )

      outside_taken : w.source ≡ Outside → (some earlier : List Judging) → AllByRecursion (CameThere (at_controller at c w s)) some → AllTaken its_pair r held out (onto items b.accepted) some earlier
      outside_taken out_there [] earlier where_so = tt
      outside_taken out_there (j ∷ some) earlier where_so = (
        λ u from taken. absurd (let never : Outside ≡ InUnit u = sym out_there ∙ sym where_so.0.0 ∙ from in let x = never in cc),
        outside_taken out_there some (j ∷ earlier) where_so.1,
      )

      -- ---- by where the bytes come from

      all_by_source : (source : Source) → w.source ≡ source → CameFrom source s w piece →
          AllByRecursion (HasHash its_pair r held out b.judged) items × AllTaken its_pair r held out (onto items b.accepted) judgings b.judged
      all_by_source Outside from came_so = (
        outside_hashes from items (all_from w.at w.source answers numbers (accepts_so (at_controller at c w s) w.link (units_of_controller c w.link piece s.moment s.chances.left))),
        outside_taken from judgings b.judged came_there,
      )
      all_by_source (InUnit number) from came_so =
          let base = beside_has plan member begins its (asks_in bag last its_fits) n (coming w) s given b known in
          let quiet : QuietState s = base.0.0.0.1.0.0.0.0 in
          let carried : IsWholeCarried s number w piece = whole_carried s number at w piece quiet.bag base.0.0.0.1.0.0.1.kinds here came_so in
          let all : AllByRecursion (IsOfUnit at carried.send.unit b.accepted c.table) answers =
          unit_answers c at w piece s number carried b.accepted (quiet.controllers at c is).well (known.1.each at c is) in
          (unit_hashes number from carried all, unit_taken number from carried all)

      known_so : AllByRecursion (HasHash its_pair r held out b.judged) items × AllJudgedSo its_pair r held out (onto items b.accepted) judgings b.judged
      known_so =
          let all = all_by_source w.source refl came in (
            all.0,
            judged_by_last its_pair r held out (onto items b.accepted) judgings b.judged now last refl to.earlier none_foreign (schedules_pass_once plan moves nobody schedule clear) all.1,
          )

    pub controller_knows : ControllerKnown its_pair n at c w piece s after b
    controller_knows held out is_out = known_so held out is_out
