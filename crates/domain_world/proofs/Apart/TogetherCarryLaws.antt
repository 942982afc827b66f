-- What the call in a unit that a member sends sets, as the last bag and the last book tell: the next of its secrets, or
-- none. It serves `Proved.never_apart`.
use Rattle.std.proofs.Common.{◌≡◌, ◌⊎◌, ℕ, ◌+◌, ◌*◌, ◌<◌, false, List, [], ◌++◌, length, drop, inl, inr, Option, Some, None, slice_get, refl, sym, ap, subst, ◌∙◌, arith}
use Rattle.std.proofs.lemmas.List.{drop_at, length-map}
use Rattle.authenticators.specs.Channels.{ChannelIdentity}
use Rattle.rpc_units.specs.declared.unit.Unit.{Unit as RpcUnit}
use Rattle.end_links.specs.Sending.{request_of}
use Rattle.outside.specs.declared.event.Event.TheVariants as event
use Rattle.secret_change.specs.Secrets.{AreSecrets, SecretsState, next_of}
use Rattle.channel_client.specs.Machine.{take_of}
use Rattle.channel_client.specs.State.{Requester}
use Rattle.channel_events.specs.Marks.{Calling, Mark, Plain}
use Rattle.wire_base.proofs.ListLaws.{some_is}
use Rattle.member_server.specs.State.{State as MemberState}
use Rattle.member_server.specs.Trying.{TriesSecrets}
use Rattle.member_server.specs.declared.state.Running.{Running}
use Rattle.step_notes.specs.MemberNotes.{taking_note}
use Rattle.step_notes.specs.Records.{Book, OfMember, Sent as SentUnit}
use Rattle.world_moves.specs.declared.bag.BagUnit.{BagUnit}
use Rattle.world_moves.specs.declared.links.EndId.TheVariants.{Member}
use Rattle.world_moves.specs.declared.links.Route.TheVariants.{ToController}
use Rattle.world_moves.specs.declared.plan.Plan.{Plan}
use Rattle.world_moves.specs.declared.state.State.{State}
use Rattle.world_moves.specs.Acting.{Given, AfterHearing, heard_by}
use Rattle.world_moves.proofs.LinkFrameLaws.{actions_stay}
use Rattle.world_moves.specs.Plain.{plain_member_step as member_step}
use Rattle.domain_world.specs.Accepting.Carried.{IsWholeUnit}
use Rattle.domain_world.specs.Claims.NeverApart.{BeginsAlike}
use Rattle.domain_world.specs.Past.{Delivery, controller_asked, marks_of, note_member}
use Rattle.domain_world.proofs.Acceptance.CarriedLaws.{one_whole}
use Rattle.domain_world.proofs.Acceptance.LetInStepLaws.{IsDialledBy}
use Rattle.domain_world.proofs.Acceptance.Heard.BoundOpeningLaws.{AsksSo, one_asks_so}
use Rattle.domain_world.proofs.Acceptance.Heard.MarkSentLaws.{CarriesMark, FitsWell, IsCallSent, Makes, MakesIn, SendsIf, makes_marks, member_sends}
use Rattle.domain_world.proofs.Acceptance.Heard.MarkWholeLaws.{MarksFit, known_running}
use Rattle.domain_world.proofs.Quiet.QuietRunLaws.{comes_whole}
use Rattle.domain_world.proofs.Quiet.QuietStepLaws.{QuietState}
use Rattle.domain_world.proofs.Quiet.QuietTurnLaws.{IfOn}
use Rattle.domain_world.proofs.Apart.OrderToldLaws.{within}
use Rattle.domain_world.proofs.Apart.TogetherAsksLaws.{asks_in, asks_led}
use Rattle.domain_world.proofs.Apart.TogetherBookLaws.{Pairing}
use Rattle.domain_world.proofs.Apart.TogetherFrameLaws.{HasHelp, marks_of_step, noted_marks}
use Rattle.domain_world.proofs.Apart.TogetherKnownLaws.{LeadsTo}
use Rattle.domain_world.proofs.Apart.TogetherMoveLaws.{IsBehindMember}
use Rattle.domain_world.proofs.Apart.TogetherRunLaws.{Beneath, pairing_of}
use Rattle.domain_world.proofs.Apart.TogetherSentLaws.{SetsMark, makes_sets, sets_at}
use Rattle.domain_world.proofs.Apart.TogetherStayLaws.{basis_of}
use Rattle.domain_world.proofs.Apart.TogetherTakeLaws.{Basis, CarriesAsks, NewAsks}
use Rattle.domain_world.proofs.Frames.BagFrameLaws.{member_marks}
use Rattle.domain_world.proofs.Moves.ComingLaws.{CameFrom}
use Rattle.domain_world.proofs.Frames.EndNoteLaws.{stepped}
use Rattle.domain_world.proofs.Moves.MarkPlaceLaws.{got_beside, got_later, later_or, marks_length, plain_of_none}
use Rattle.domain_world.proofs.Frames.MoveKeepLaws.{coming}
use Rattle.domain_world.proofs.Moves.NewUnitLaws.{new_or_plain}
use Rattle.domain_world.proofs.Moves.OpenMadeLaws.{IsMore, MoreOf, goes_on, no_more}
use Rattle.domain_world.proofs.Calls.CallComesLaws.{IsWhole}
use Rattle.domain_world.proofs.Calls.CallHoldsLaws.{marks_in, views_at}

-- by the place whose call goes out
by_called : (b : Basis) (marks more : List Mark) (c : Requester) (secrets : SecretsState) (drawn : List (List ℕ)) (uses : ℕ) (called : Option ℕ) →
    NewAsks b marks more c secrets drawn uses (sets_at called (next_of secrets)) → CarriesAsks b marks more c secrets drawn uses called
by_called b marks more c secrets drawn uses None asks = asks
by_called b marks more c secrets drawn uses (Some place) asks = asks

plain_or : (channel : ChannelIdentity) (number timestamp : ℕ) → Calling channel number timestamp ≡ Plain → ⊥
plain_or channel number timestamp is = let never = is in cc

module _ (p : Pairing) (bag : List BagUnit) (last : Book) (fits : MarksFit bag last) (is_asked : (n : ℕ) → p.asks n ≡ asks_in bag last fits n) (w : Delivery) (piece : List ℕ) (s : State) (b : Book)
    (running : Running) (whole : IsWhole w.link piece running) (there : slice_get s.ends.members p.who ≡ Some (record { running = Some running })) (came : CameFrom w.source s w piece)
    (even : length b.sent ≡ length s.bag) (quiet : QuietState s) (asks : AsksSo (record { running = Some running })) (are : AreSecrets running.logons.plan.secrets)
    (tries : TriesSecrets running.logons.channel running.logons.plan.secrets) where
  abbrev m : MemberState
  m = record { running = Some running }

  abbrev c : Requester
  c = running.logons.channel

  abbrev its : ℕ
  its = controller_asked (OfMember p.who) s

  abbrev after : State
  after = stepped (Member p.who) (member_step (Some m) p.who (event.Bytes w.link piece) s.moment s.ends s.chances) s

  abbrev heard : AfterHearing
  heard = heard_by (member_step (Some m) p.who (event.Bytes w.link piece) s.moment s.ends s.chances) s

  -- the secret that the call sets, if it sets one
  abbrev secret : Option (List ℕ)
  secret = sets_at (taking_note (Some (take_of c whole.unit)) its c).called (next_of running.logons.plan.secrets)

  abbrev Sent : Mark → List ℕ → Type 0
  Sent mark bytes = CarriesMark mark bytes × SetsMark secret mark bytes

  makes : FitsWell c → Makes Sent its piece c
  makes well one =
      let own : MakesIn Sent its c whole.unit =
      λ bytes out. (makes_marks its piece c well (record { frames = whole.frames; unit = whole.unit; heard = whole.heard }) bytes out, makes_sets its c well running.logons.plan.secrets are tries whole.unit bytes out) in
      subst (λ (unit : RpcUnit). MakesIn Sent its c unit) (one_whole piece whole.frames one.frames whole.unit one.unit whole.heard one.heard) own

  sends : SendsIf Sent (IsDialledBy s.links p.who w.link) w.link (member_marks p.who m w piece s) heard.actions
  sends =
      let known = known_running s.links p.who (Some running) running refl (quiet.members p.who m there) asks.0 asks.1 in
      member_sends Sent (IsDialledBy s.links p.who) its w.link piece s.chances.left (λ own. comes_whole w.source s w piece quiet.bag came (p.who, own.controller, own.at)) m s.moment
      (λ r runs. subst (λ (x : Running). Makes Sent its piece x.logons.channel × IfOn (IsDialledBy s.links p.who) x.dialling) (some_is running r runs) (makes known.0, known.1))

  more : IsMore s.links s.bag after.links after.bag
  more = actions_stay (MoreOf s.links s.bag) (goes_on s.links s.bag) (Member p.who) heard.actions heard.state (no_more s.links s.bag)

  -- of each unit that is new
  sent_for : (place : ℕ) (unit : BagUnit) (mark : Mark) → slice_get more.units place ≡ Some unit → slice_get (marks_of w.link false more.units (member_marks p.who m w piece s)) place ≡ Some mark →
      (mark ≡ Plain) ⊎ Sent mark unit.bytes
  sent_for place unit mark at marked = elim sends [
    | inl none ↦ inl (plain_of_none w.link false more.units place mark (subst (λ (ms : List Mark). slice_get (marks_of w.link false more.units ms) place ≡ Some mark) none marked))
    | inr own ↦ elim (new_or_plain (ToController p.who own.0.controller) (Member p.who) w.link false heard.actions (member_marks p.who m w piece s) heard.state more.units place unit mark own.0.at refl own.1.front more.is more.on at marked) [
      | inl plain ↦ inl plain
      | inr new ↦ inr (own.1.carries new.place mark unit.bytes new.marked new.sends)
    ]
  ]

  new_marks : marks_of_step p p.who m w piece s after ≡ marks_of w.link false more.units (member_marks p.who m w piece s)
  new_marks =
      ap (λ (units : List BagUnit). marks_of w.link false units (member_marks p.who m w piece s))
      (ap (λ (all : List BagUnit). drop (length s.bag) all) more.is ∙ drop_at s.bag more.units (length s.bag) refl)

  pub asks_new : (basis : Basis) (drawn : List (List ℕ)) (uses : ℕ) → basis.sides.asks ≡ p.asks → LeadsTo bag last after.bag (note_member (Some m) p.who w piece s after b) →
      CarriesAsks basis (marks_in b.sent) (marks_of_step p p.who m w piece s after) c running.logons.plan.secrets drawn uses (taking_note (Some (take_of c whole.unit)) its c).called
  asks_new basis drawn uses same to =
      by_called basis (marks_in b.sent) (marks_of_step p p.who m w piece s after) c running.logons.plan.secrets drawn uses (taking_note (Some (take_of c whole.unit)) its c).called
      (λ n number timestamp d least found. elim (later_or (marks_in b.sent) (marks_of_step p p.who m w piece s after) n (Calling d number timestamp) found) [
        | inl old ↦
            let below : n < length b.sent = within b.sent n (Calling d number timestamp) old in
            absurd (omega (arith, below, least, length-map b.sent (λ (one : SentUnit). one.mark)))
        | inr new ↦
            let marked : slice_get (marks_of w.link false more.units (member_marks p.who m w piece s)) new.place ≡ Some (Calling d number timestamp) =
            subst (λ (ms : List Mark). slice_get ms new.place ≡ Some (Calling d number timestamp)) new_marks new.there in
            let unit = got_beside (marks_of w.link false more.units (member_marks p.who m w piece s)) more.units new.place (Calling d number timestamp)
            (marks_length w.link false more.units (member_marks p.who m w piece s)) marked in
            let place : length s.bag + new.place ≡ n = omega (arith, new.is, even, length-map b.sent (λ (one : SentUnit). one.mark)) in
            let in_bag : slice_get after.bag n ≡ Some unit.0 =
            ap (λ (all : List BagUnit). slice_get all n) more.is
            ∙ subst (λ (k : ℕ). slice_get (s.bag ++ more.units) k ≡ Some unit.0) place (got_later s.bag more.units new.place unit.0 unit.1) in
            let noted : slice_get (marks_in (note_member (Some m) p.who w piece s after b).sent) n ≡ Some (Calling d number timestamp) =
            subst (λ (ms : List Mark). slice_get ms n ≡ Some (Calling d number timestamp)) (sym (noted_marks p p.who m w piece s after b)) found in
            elim (sent_for new.place unit.0 (Calling d number timestamp) unit.1 marked) [
              | inl plain ↦ absurd (plain_or d number timestamp plain)
              | inr sent ↦
                  let call : IsCallSent d number timestamp unit.0.bytes = sent.0 in
                  let own : IsWholeUnit unit.0.bytes = record { frames = call.frames; unit = request_of number 0 call.opnum call.stub; heard = call.heard } in
                  ap (λ (f : ℕ → Option (List ℕ)). f n) same ∙ is_asked n
                  ∙ asks_led bag last fits after.bag (note_member (Some m) p.who w piece s after b) to n d number timestamp noted unit.0 in_bag own call.stamped.asked call.stamped.read
                  ∙ sent.1 own call.stamped.asked call.stamped.read
            ]
      ])

-- ---- of a member that begins alike

module _ (plan : Plan) (member : ℕ) (begins : BeginsAlike plan member) (place : ℕ) (bag : List BagUnit) (last : Book) (fits : MarksFit bag last) where
  abbrev pair : Pairing
  pair = pairing_of plan member begins place (asks_in bag last fits)

  pub carries_so : (n : ℕ) (w : Delivery) (piece : List ℕ) (s later : State) (given : Given) (b : Book) (running : Running) (whole : IsWhole w.link piece running) →
      slice_get s.ends.members member ≡ Some (record { running = Some running }) → CameFrom w.source s w piece → length b.sent ≡ length s.bag → HasHelp pair n [] s given b →
      Beneath plan member begins place (asks_in bag last fits) n (coming w) s given b → IsBehindMember member (record { running = Some running }) w piece s later →
      LeadsTo bag last later.bag (note_member (Some (record { running = Some running })) member w piece s later b) →
      CarriesAsks (basis_of pair (views_at s.member_plans s.ends) b) (marks_in b.sent) (marks_of_step pair member (record { running = Some running }) w piece s later) running.logons.channel
      running.logons.plan.secrets s.chances.drawn (2 * n) (taking_note (Some (take_of running.logons.channel whole.unit)) pair.controller running.logons.channel).called
  carries_so n w piece s later given b running whole there came even help known behind to =
      let st : MemberState = record { running = Some running } in
      let basis : Basis = basis_of pair (views_at s.member_plans s.ends) b in
      let c : Requester = running.logons.channel in
      let secrets : SecretsState = running.logons.plan.secrets in
      let quiet : QuietState s = known.0.0.0.1.0.0.0.0 in
      let are : AreSecrets secrets = (known.0.1.1.held known.0.1.0.0 st running known.0.1.0.1 there refl).are in
      let new = asks_new pair bag last fits (λ k. refl) w piece s b running whole there came even quiet (one_asks_so s.ends.members member st there known.1.1) are (help.tries member st there) basis s.chances.drawn
      (2 * n) refl in
      subst (λ (k : ℕ). CarriesAsks basis (marks_in b.sent) (marks_of_step pair member st w piece s later) c secrets s.chances.drawn (2 * n) (taking_note (Some (take_of c whole.unit)) k c).called)
      help.asks
      (subst (λ (x : State). LeadsTo bag last x.bag (note_member (Some st) member w piece s x b) →
      CarriesAsks basis (marks_in b.sent) (marks_of_step pair member st w piece s x) c secrets s.chances.drawn (2 * n)
      (taking_note (Some (take_of c whole.unit)) (controller_asked (OfMember member) s) c).called) (sym behind) new to)
