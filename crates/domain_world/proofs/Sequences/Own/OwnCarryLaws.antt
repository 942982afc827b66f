-- What is known of the calls of members' turns is carried through a run, where it is kept as bytes come at a member.
-- It serves `Proved.sequences`.
use Rattle.std.proofs.Common.{◌≡◌, ℕ, ◌+◌, false, List, [], ◌++◌, Option, Some, None, slice_get, refl, sym, ap, subst, arith}
use Rattle.std.proofs.lemmas.List.{length-set, append-nil}
use Rattle.outside.specs.Drawing.{Drawing}
use Rattle.outside.specs.declared.action.Action.{Action}
use Rattle.outside.specs.declared.event.Event.{Event}
use Rattle.channel_events.specs.Marks.{Mark}
use Rattle.logon_client.specs.declared.plan.ClientPlan.{ClientPlan}
use Rattle.member_server.specs.Laws.{heard_in}
use Rattle.member_server.specs.Machine.{fresh_member}
use Rattle.member_server.specs.State.{State as MemberState}
use Rattle.member_server.specs.declared.plan.MemberPlan.{MemberPlan}
use Rattle.channel_turns.specs.declared.state.Dialling.{Dialling}
use Rattle.member_server.specs.declared.state.Running.{Running}
use Rattle.member_server.proofs.AskedLaws.{asks_what_waits}
use Rattle.step_notes.specs.Records.{Book, ChannelTurn, Sent, blank, OfMember, RequesterId}
use Rattle.world_moves.specs.declared.links.EndId.{EndId}
use Rattle.world_moves.specs.declared.links.EndId.TheVariants.{Client, Member}
use Rattle.world_moves.specs.declared.plan.Plan.{Plan}
use Rattle.world_moves.specs.declared.state.State.{State}
use Rattle.world_moves.specs.Acting.{Given, given_by}
use Rattle.world_moves.specs.Ends.{EndStates, renew_client, with_member}
use Rattle.world_moves.specs.MemberPlans.{AreAlikeButSecrets}
use Rattle.world_moves.specs.Moving.{begun, changed as begun_change}
use Rattle.domain_world.specs.Accepting.SeenSteps.{Differ, HearsNone}
use Rattle.domain_world.specs.Accepting.Sequences.{IsTakenFor}
use Rattle.domain_world.specs.Past.{controller_asked, running_in}
use Rattle.domain_world.proofs.Frames.AloneStepLaws.{renew_alone_by as renew_by, renew_controller_alone as renew_controller, renewed_alone as renewed}
use Rattle.domain_world.proofs.Acceptance.Turns.TurnFactLaws.{AreApart, GrowsTo, SameEnds, marks_before, past_at}
use Rattle.domain_world.proofs.Acceptance.Turns.TurnQuietLaws.{change_same, renew_same, same_ends}
use Rattle.domain_world.proofs.Messages.MessageApartLaws.{links_in}
use Rattle.domain_world.proofs.Moves.ComingLaws.{StillHas, kept_same}
use Rattle.domain_world.proofs.Frames.EventLaws.{by_no_bytes}
use Rattle.domain_world.proofs.Moves.NoBytesLaws.{IsNoBytes}
use Rattle.domain_world.proofs.Calls.CallHoldsLaws.{marks_in}
use Rattle.domain_world.proofs.Sequences.DialCountLaws.{given_append, given_dials, given_other}
use Rattle.domain_world.proofs.Sequences.Own.OwnFrameLaws.{text_dials, StillDrawn}
use Rattle.domain_world.proofs.Sequences.Own.OwnKeepLaws.{OwnHolds}
use Rattle.domain_world.proofs.Sequences.Own.OwnStayLaws.{one_stays, HearsIf, NoNewCalls, OwnFacts, all_stay, on_any, OwnBy, OwnOf, own_put}
use Rattle.domain_world.proofs.Sequences.Own.OwnTurnLaws.{AreDrawn, mine}
use Rattle.domain_world.proofs.Sequences.SeedTurnLaws.{turned_blank}
use Rattle.domain_world.proofs.Moves.RequesterLaws.{not_client, asker_in, asker_first}
use Rattle.world_moves.proofs.ChangeLaws.{by_change, member_begun, text_begun}
use Rattle.world_moves.specs.Plain.{plain_world, renew_plain_member as renew_member}

-- ---- events at which no bytes come

none_heard : (what : Event) (how : Dialling) → IsNoBytes what → heard_in what how ≡ []
none_heard what how =
    by_no_bytes (λ (one : Event). heard_in one how ≡ []) (λ link. refl) (λ link. refl) (λ link. refl) refl refl what

none_in : (r : Option Running) (what : Event) → IsNoBytes what → HearsNone r what
none_in None what none = tt
none_in (Some running) what none = none_heard what running.dialling none

pub none_if : (found : Option MemberState) (what : Event) → IsNoBytes what → HearsIf found what
none_if None what none = tt
none_if (Some m) what none = none_in m.running what none

module _ (plan : Plan) where
  -- ---- one thing changes

  pub changed : (n : ℕ) (s t : State) (given : Given) (b : Book) → AreAlikeButSecrets s.member_plans t.member_plans → StillHas s.bag t.bag → t.ends ≡ s.ends → t.chances ≡ s.chances → OwnHolds plan n s given b →
      OwnHolds plan n t given b
  changed n s t given b plans bag ends chances known few unclashed apart marks differ =
      let drawn : t.chances.drawn ≡ s.chances.drawn = ap (λ (c : Drawing). c.drawn) chances in
      let grows : GrowsTo s t b b = record { bag = bag; sent = λ k one there. there; ends = subst (λ (x : EndStates). SameEnds s.ends x) (sym ends) (same_ends s.ends) } in
      all_stay plan s t b b plans grows given given (subst (λ (ds : List (List ℕ)). StillDrawn s.chances.drawn ds) (sym drawn) (λ challenge was. was)) refl
      (ap (λ (e : EndStates). e.members) ends) (λ k. refl) (λ n number timestamp e there. there) (known few unclashed apart (marks_before s t b b grows marks) (subst Differ drawn differ))

  -- the book changes, and no call is written down
  pub book_changed : (n : ℕ) (t : State) (given : Given) (b d : Book) → ((k : ℕ) (one : Sent) → slice_get b.sent k ≡ Some one → slice_get d.sent k ≡ Some one) → (d.clash ≡ false → b.clash ≡ false) →
      (AreApart (links_in d.messages) → AreApart (links_in b.messages)) → d.turns ≡ b.turns → NoNewCalls (marks_in b.sent) (marks_in d.sent) → OwnHolds plan n t given b → OwnHolds plan n t given d
  book_changed n t given b d grown clash messages turns none known few unclashed apart marks differ =
      let grows : GrowsTo t t b d = record { bag = kept_same t.bag; sent = grown; ends = same_ends t.ends } in
      all_stay plan t t b d refl grows given given (λ challenge was. was) turns refl (λ k. refl) none
      (known few (clash unclashed) (messages apart) (marks_before t t b d grows marks) differ)

  -- ---- a client begins

  pub client_begins : (n client : ℕ) (own : ClientPlan) (s : State) (given : Given) (b : Book) → OwnHolds plan n s given b →
      OwnHolds plan (n + 1) (begun client own s).state (given ++ given_by (Client client) (begun client own s).actions) b
  client_begins n client own s given b known few unclashed apart marks differ =
      let t : State = (begun client own s).state in
      let actions : List Action = (begun client own s).actions in
      let grows : GrowsTo s t b b = record {
        bag = kept_same s.bag;
        sent = λ k one there. there;
        ends = record { controllers = refl; members = refl; clients = sym (length-set s.ends.clients client _); stations = refl };
      } in
      all_stay plan s t b b refl grows given (given ++ given_by (Client client) actions) (λ challenge was. was) refl refl
      (λ k. omega (arith, given_append (Member k) given (given_by (Client client) actions), given_other (Member k) (Client client) actions (not_client k client))) (λ n number timestamp e there. there)
      (known (omega (arith, few)) unclashed apart (marks_before s t b b grows marks) differ)

  -- ---- an end is made anew

  fresh_own : (Done : ℕ → Type 0) (marks : List Mark) (drawn : List (List ℕ)) (turns : List ChannelTurn) (given : Given) (controller : ℕ) (who : RequesterId) (own : MemberPlan) → AreDrawn drawn (mine who turns) →
      OwnBy Done marks drawn turns given controller who (fresh_member own).running
  fresh_own Done marks drawn turns given controller who own before = (
    asks_what_waits.fresh own,
    record {
      own = mine who turns;
      none = λ none. refl;
      one = λ one waits. absurd waits;
      before = before;
      turned = turned_blank _ _ drawn refl refl;
      calls = λ c is. absurd (let x = is in cc);
    },
  )

  module _ (s : State) (given : Given) (b : Book) where
    others_same : (ends : EndStates) → ends.members ≡ s.ends.members → SameEnds s.ends ends → OwnFacts plan s given b → OwnFacts plan (record s { ends = ends }) given b
    others_same ends members same old =
        all_stay plan s (record s { ends = ends }) b b refl (record { bag = kept_same s.bag; sent = λ k one there. there; ends = same }) given given (λ challenge was. was) refl members (λ k. refl)
        (λ n number timestamp e there. there) old

    member_anew : (own : MemberPlan) (at : ℕ) → SameEnds s.ends (renew_member (Some own) at s.ends) → OwnFacts plan s given b →
        OwnFacts plan (record s { ends = renew_member (Some own) at s.ends }) given b
    member_anew own at same old =
        let t : State = record s { ends = renew_member (Some own) at s.ends } in
        let grows : GrowsTo s t b b = record { bag = kept_same s.bag; sent = λ k one there. there; ends = same } in
        record {
          before = old.before;
          asks = own_put plan s t b b refl grows given given (λ challenge was. was) refl at (fresh_member own)
              (fresh_own (IsTakenFor (past_at plan t b)) (marks_in b.sent) s.chances.drawn b.turns given (controller_asked (OfMember at) t) (OfMember at) own (old.before at)) (λ k differs. refl)
              (λ k differs. on_any plan s t b b refl grows (controller_asked (OfMember k) s) (asker_in k s.ends) (λ n number timestamp e is. is)) old;
        }

    end_anew : (end : EndId) → OwnFacts plan s given b → OwnFacts plan (renewed end s) given b
    end_anew end old =
        renew_by (λ (one : EndId) (ends : EndStates). SameEnds s.ends ends → OwnFacts plan (record s { ends = ends }) given b) s (λ one same. others_same s.ends refl same old)
        (λ at c is same. others_same (renew_controller (Some c) at s.ends) refl same old) (λ at own is same. member_anew own at same old)
        (λ at own is same. others_same (renew_client (Some own) at s.ends) refl same old) end (renew_same end s)

  pub own_anew : (n : ℕ) (end : EndId) (s : State) (given : Given) (b : Book) → OwnHolds plan n s given b → OwnHolds plan n (renewed end s) given b
  own_anew n end s given b known few unclashed apart marks differ =
      end_anew s given b end
      (known few unclashed apart (marks_before s (renewed end s) b b (record { bag = kept_same s.bag; sent = λ k one there. there; ends = renew_same end s }) marks) (same_draws end differ))
    where
      same_draws : (one : EndId) → Differ (renewed one s).chances.drawn → Differ s.chances.drawn
      same_draws one is = is

  -- ---- a member begins to change its secret

  -- what is known of its calls stays known: the channel and the dial are the same
  changed_own : (Done : ℕ → Type 0) (marks : List Mark) (drawn : List (List ℕ)) (turns : List ChannelTurn) (given : Given) (controller : ℕ) (who : RequesterId) (secret : List ℕ) (running : Running) →
      OwnBy Done marks drawn turns given controller who (Some running) → OwnBy Done marks drawn turns given controller who (member_begun secret running).running
  changed_own Done marks drawn turns given controller who secret running old = (
    record { coherent = old.0.coherent; asked = old.0.asked; out = old.0.out },
    record { own = old.1.own; none = old.1.none; one = old.1.one; before = old.1.before; turned = old.1.turned; calls = old.1.calls },
  )

  module _ (s : State) (given : Given) (b : Book) where
    member_changed : (at : ℕ) (secret : List ℕ) (running : Running) → slice_get s.ends.members at ≡ Some (record { running = Some running }) →
        SameEnds s.ends (with_member at (member_begun secret running) s.ends) → OwnFacts plan s given b →
        OwnFacts plan (record s { ends = with_member at (member_begun secret running) s.ends }) (given ++ given_by (Member at) (text_begun secret running)) b
    member_changed at secret running is same old =
        let t : State = record s { ends = with_member at (member_begun secret running) s.ends } in
        let more : Given = given ++ given_by (Member at) (text_begun secret running) in
        let grows : GrowsTo s t b b = record { bag = kept_same s.bag; sent = λ k one there. there; ends = same } in
        let still : StillDrawn s.chances.drawn t.chances.drawn = λ challenge was. was in
        let count : (k : ℕ) → given_dials (Member k) more ≡ given_dials (Member k) given =
        λ k. omega (arith, given_append (Member k) given (given_by (Member at) (text_begun secret running)), text_dials (OfMember k) at secret running) in
        let was : OwnOf plan s given b (OfMember at) (Some running) =
        subst (λ (found : Option MemberState). OwnOf plan s given b (OfMember at) (running_in found)) is (old.asks at) in
        let own : OwnOf plan t more b (OfMember at) (Some running) =
        one_stays plan s t b b refl grows given more still refl at (Some running) (count at)
        (on_any plan s t b b refl grows (controller_asked (OfMember at) s) (Some running) (λ n number timestamp e there. there)) was in
        record {
          before = old.before;
          asks = own_put plan s t b b refl grows given more still refl at (member_begun secret running)
              (changed_own (IsTakenFor (past_at plan t b)) (marks_in b.sent) t.chances.drawn b.turns more (controller_asked (OfMember at) t) (OfMember at) secret running own) (λ k differs. count k)
              (λ k differs. on_any plan s t b b refl grows (controller_asked (OfMember k) s) (asker_in k s.ends) (λ n number timestamp e there. there)) old;
        }

    end_changed : (at : ℕ) (secret : List ℕ) → OwnFacts plan s given b → OwnFacts plan (begun_change at secret s).state (given ++ given_by (Member at) (begun_change at secret s).actions) b
    end_changed at secret old =
        by_change (λ (ends : EndStates) (actions : List Action). SameEnds s.ends ends → OwnFacts plan (record s { ends = ends }) (given ++ given_by (Member at) actions) b) at secret s.ends
        (λ same. subst (λ (all : Given). OwnFacts plan s all b) (sym (append-nil given)) old) (λ running is none same. member_changed at secret running is same old) (change_same at secret s)

  pub own_change : (n at : ℕ) (secret : List ℕ) (s : State) (given : Given) (b : Book) → OwnHolds plan n s given b →
      OwnHolds plan (n + 1) (begun_change at secret s).state (given ++ given_by (Member at) (begun_change at secret s).actions) b
  own_change n at secret s given b known few unclashed apart marks differ =
      end_changed s given b at secret
      (known (omega (arith, few)) unclashed apart
      (marks_before s (begun_change at secret s).state b b (record { bag = kept_same s.bag; sent = λ k one there. there; ends = change_same at secret s }) marks) differ)

  -- at first
  pub first_own : OwnHolds plan 0 (plain_world plan).state [] blank
  first_own few unclashed apart marks differ =
      let s : State = (plain_world plan).state in
      record {
        before = λ k. tt;
        asks = asker_first (λ (k : ℕ). OwnOf plan s [] blank (OfMember k)) plan (λ k. (tt, tt))
            (λ k own. fresh_own (IsTakenFor (past_at plan s blank)) [] s.chances.drawn [] [] (controller_asked (OfMember k) s) (OfMember k) own tt);
      }
