-- What a requester and its controller have in common, by the book of a run: of a member that runs, and of one that has
-- stopped, by what it is made from again. It serves `Proved.never_apart`.
use Rattle.std.proofs.Common.{◌≡◌, ◌⊎◌, ℕ, zero, suc, false, List, [], ◌∷◌, ◌++◌, inl, inr, Option, Some, None, Result, Ok, Err, slice_get, refl, sym, ap, subst, ◌∙◌}
use Rattle.std.specs.Option.{option_map}
use Rattle.wire_base.specs.Names.{SameName}
use Rattle.outside.specs.Machine.{Part, step_by}
use Rattle.outside.specs.declared.action.Action.{Action}
use Rattle.outside.specs.declared.action.StepRefused.{StepRefused}
use Rattle.authenticators.specs.Channels.{ChannelIdentity}
use Rattle.secret_change.specs.Agreement.{Holds as HoldsSecret}
use Rattle.secret_change.specs.Secrets.{AreSecrets, SecretsState, alone, next_of, reread, written_secrets}
use Rattle.secret_change.specs.declared.secrets.Next.{Next}
use Rattle.channel_client.specs.Effects.{View, number_in, stands_in, step_in, view_of}
use Rattle.channel_client.specs.State.{Requester}
use Rattle.channel_client.specs.declared.state.SetStep.TheVariants as set_step
use Rattle.channel_client.specs.declared.state.Standing.{Standing}
use Rattle.channel_client.specs.declared.state.Standing.TheVariants as standing
use Rattle.channel_client.specs.declared.state.Step.{Step}
use Rattle.channel_client.specs.declared.state.Step.TheVariants as step
use Rattle.channel_client.specs.declared.caller.Caller.{Caller}
use Rattle.channel_events.specs.AcceptedOrder.{IsOf}
use Rattle.channel_events.specs.Marks.{Calling, Mark}
use Rattle.channel_events.specs.Requests.{Requests}
use Rattle.channel_events.specs.SecretOrder.{AreTogether}
use Rattle.channel_events.proofs.AcceptedOrderLaws.{of_same}
use Rattle.wire_base.proofs.ListLaws.{no_some, some_is}
use Rattle.channel_events.proofs.SameLaws.{same_back}
use Rattle.member_server.specs.declared.plan.MemberPlan.{MemberPlan}
use Rattle.member_server.specs.declared.state.Running.{Running}
use Rattle.member_server.specs.Machine.{actions_in, fresh_member, halted_state, state_in}
use Rattle.member_server.specs.State.{State as MemberState}
use Rattle.member_server.specs.Trying.{IsSetIn, TriesSecrets}
use Rattle.member_server.specs.Turns.{DialWork}
use Rattle.member_server.proofs.TryingLaws.{tries_its_secrets}
use Rattle.step_notes.specs.Records.{Book, ChannelAccepted, Judging}
use Rattle.world_moves.specs.declared.links.EndId.{EndId}
use Rattle.world_moves.specs.declared.links.EndId.TheVariants.{Member}
use Rattle.world_moves.specs.Acting.{Given, given_by}
use Rattle.world_moves.specs.Ends.{actions_by}
use Rattle.world_moves.specs.Links.{same_end}
use Rattle.world_moves.proofs.ChangeLaws.{with_next}
use Rattle.domain_world.specs.Claims.AcceptedOpenings.{accepted_in}
use Rattle.domain_world.proofs.Apart.KeptTextLaws.{IsHeldAs, KeepsSo, other_steps, read_alike}
use Rattle.domain_world.proofs.Apart.TogetherBookLaws.{Pairing, sides_now}
use Rattle.domain_world.proofs.Apart.TogetherMemberLaws.{TiesIf, TogetherAlone}
use Rattle.domain_world.proofs.Apart.TogetherTakeLaws.{Basis, Ties, WaitsBy, goes_without, own_seen, seen_own, with_held}
use Rattle.domain_world.proofs.Calls.CallHoldsLaws.{marks_in}

-- ---- by the book

abbrev pub basis_by : Pairing → (ℕ → Option View) → List ChannelAccepted → List Judging → Basis
basis_by p views accepted judged = record {
  views = views;
  who = p.who;
  controller = p.controller;
  computer = p.computer;
  accepted = accepted_in accepted;
  sides = sides_now p accepted judged (alone p.secret) None;
}

abbrev pub basis_of : Pairing → (ℕ → Option View) → Book → Basis
basis_of p views b = basis_by p views b.accepted b.judged

-- ties by channels, calls and marks that are known by equations
pub rebooked : (p : Pairing) (views : ℕ → Option View) (accepted after : List ChannelAccepted) (judged later : List Judging) (marks more : List Mark) (r : Option Running) (kept : SecretsState) →
    accepted ≡ after → judged ≡ later → marks ≡ more → TiesIf (basis_by p views accepted judged) marks r kept → TiesIf (basis_by p views after later) more r kept
rebooked p views accepted after judged later marks more r kept same alike equal ties =
    subst (λ (all : List Mark). TiesIf (basis_by p views after later) all r kept) equal
    (subst (λ (all : List Judging). TiesIf (basis_by p views after all) marks r kept) alike
    (subst (λ (all : List ChannelAccepted). TiesIf (basis_by p views all judged) marks r kept) same ties))

-- who else is seen doesn't matter
abbrev pub unseen : ℕ → Option View
unseen j = None

pub with_views : (b : Basis) (views : ℕ → Option View) (marks : List Mark) (c : Requester) (secrets : SecretsState) → Ties b marks c secrets → Ties (record b { views = views }) marks c secrets
with_views b views marks c secrets ties =
    let t = ties.together in
    record {
      coherent = ties.coherent;
      out = ties.out;
      waits = ties.waits;
      together = record {
        among = t.among;
        kept = t.kept;
        taken = t.taken;
        sets = t.sets;
        opens = λ v challenge at opening.
            t.opens v challenge (own_seen b (view_of b.controller c) ∙ ap (λ (x : View). Some x) (seen_own (record b { views = views }) (view_of b.controller c) v at)) opening;
        asked = t.asked;
      };
    }

-- ---- what a member that has stopped is made from again

abbrev only_at : ℕ → MemberState → List MemberState
only_at zero st = st ∷ []
only_at (suc m) st = st ∷ only_at m st

only_there : (m : ℕ) (st : MemberState) → slice_get (only_at m st) m ≡ Some st
only_there zero st = refl
only_there (suc m) st = only_there m st

-- the texts that aren't kept yet make a plan of it that has the secrets of this one
abbrev pub IsSeeded : ℕ → Given → List MemberPlan → MemberPlan → Type 0
IsSeeded m rest plans seed = KeepsSo m rest plans (only_at m (fresh_member seed))

-- a member that runs keeps texts that a seed by its plan has
pub seeded : (m : ℕ) (rest : Given) (plans : List MemberPlan) (members : List MemberState) (running : Running) → slice_get members m ≡ Some (record { running = Some running }) →
    KeepsSo m rest plans members → IsSeeded m rest plans running.logons.plan
seeded m rest plans members running there keeps = record {
  kept = keeps.kept;
  texts = keeps.texts;
  held = λ own st later is at runs.
      let old : IsHeldAs m rest own.secrets running = keeps.held own (record { running = Some running }) running is there refl in
      let same : fresh_member running.logons.plan ≡ st = some_is _ st (sym (only_there m (fresh_member running.logons.plan)) ∙ at) in
      let secrets : running.logons.plan.secrets ≡ later.logons.plan.secrets =
      ap (λ (r : Running). r.logons.plan.secrets) (some_is _ later (ap (λ (x : MemberState). x.running) same ∙ runs)) in
      record { are = subst AreSecrets secrets old.are; same = old.same ∙ ap written_secrets secrets };
}

pub seed_goes : (m : ℕ) (end : EndId) (actions : List Action) (rest : Given) (plans : List MemberPlan) (seed : MemberPlan) → same_end end (Member m) ≡ false → IsSeeded m rest plans seed →
    IsSeeded m (given_by end actions ++ rest) plans seed
seed_goes m end actions rest plans seed differs texts =
    other_steps m end actions rest plans (only_at m (fresh_member seed)) (only_at m (fresh_member seed)) differs (λ st there. there) texts

-- where no text waits it has its secrets, but for which one is tried
pub seed_alike : (m : ℕ) (plans : List MemberPlan) (seed own : MemberPlan) → slice_get plans m ≡ Some own → IsSeeded m [] plans seed → reread seed.secrets ≡ reread own.secrets
seed_alike m plans seed own is texts =
    let held = texts.held own (fresh_member seed) _ is (only_there m (fresh_member seed)) refl in
    sym (read_alike own.secrets seed.secrets (texts.kept own is) held.are held.same)

-- ---- secrets that are held

next_reread : (current : List ℕ) (next : Option Next) → next_of (reread (record { current = current; next = next })) ≡ next_of (record { current = current; next = next })
next_reread current None = refl
next_reread current (Some n) = refl

pub next_alike : (one other : SecretsState) → reread one ≡ reread other → next_of one ≡ next_of other
next_alike one other same = sym (next_reread one.current one.next) ∙ ap next_of same ∙ next_reread other.current other.next

pub holds_alike : (one other : SecretsState) → reread one ≡ reread other → (secret : List ℕ) → HoldsSecret secret one → HoldsSecret secret other
holds_alike one other same secret holds = elim holds [
  | inl is ↦ inl (is ∙ ap (λ (s : SecretsState). s.current) same)
  | inr is ↦ inr (sym (next_alike one other same) ∙ is)
]

-- ---- the fact

-- what it is made from again has the secret of its account
pub record StoppedSo (p : Pairing) (rest : Given) (plans : List MemberPlan) (b : Book) : Type 0 where
  pub seed : MemberPlan
  pub texts : IsSeeded p.who rest plans seed
  pub together : TogetherAlone (basis_of p unseen b) (marks_in b.sent) seed.secrets

abbrev pub TiesHold : Pairing → Given → List MemberPlan → Book → Option Running → Type 0
TiesHold p rest plans b None = StoppedSo p rest plans b
TiesHold p rest plans b (Some running) = Ties (basis_of p unseen b) (marks_in b.sent) running.logons.channel running.logons.plan.secrets

abbrev pub TogetherSo : Pairing → Given → List MemberPlan → List MemberState → Book → Type 0
TogetherSo p rest plans members b = (st : MemberState) → slice_get members p.who ≡ Some st → TiesHold p rest plans b st.running

-- another end gave something to do
pub other_gives : (p : Pairing) (end : EndId) (actions : List Action) (rest : Given) (plans : List MemberPlan) (b : Book) (r : Option Running) → same_end end (Member p.who) ≡ false →
    TiesHold p rest plans b r → TiesHold p (given_by end actions ++ rest) plans b r
other_gives p end actions rest plans b None differs ties = record { seed = ties.seed; texts = seed_goes p.who end actions rest plans ties.seed differs ties.texts; together = ties.together }
other_gives p end actions rest plans b (Some running) differs ties = ties

-- a member's own step: where it isn't taken there is nothing to do
pub own_gives : (p : Pairing) (rest : Given) (plans : List MemberPlan) (b : Book) (seed : MemberPlan) (left : List (List ℕ)) (part : Result (Part DialWork) StepRefused) → IsSeeded p.who rest plans seed →
    TiesIf (basis_of p unseen b) (marks_in b.sent) (step_by actions_in state_in halted_state left part).state.running seed.secrets →
    TiesHold p (given_by (Member p.who) (actions_by (step_by actions_in state_in halted_state left part).answer) ++ rest) plans b
    (step_by actions_in state_in halted_state left part).state.running
own_gives p rest plans b seed left (Err why) texts ties = record { seed = seed; texts = texts; together = ties }
own_gives p rest plans b seed left (Ok part) texts ties = ties

-- ---- a member is made anew

alone_fresh : (p : Pairing) (b : Book) (seed : SecretsState) (own : MemberPlan) → ((secret : List ℕ) → HoldsSecret secret seed → HoldsSecret secret own.secrets) →
    TogetherAlone (basis_of p unseen b) (marks_in b.sent) seed → TiesHold p [] [] b (fresh_member own).running
alone_fresh p b seed own keeps t = record {
  coherent = (tries_its_secrets.fresh own).coherent;
  out = None;
  waits = refl;
  together = record {
    among = keeps _ t.among;
    kept = t.kept;
    taken = t.taken;
    sets = λ unit number timestamp c kept secret there asks is same. elim (t.sets unit number timestamp c kept secret there asks is same) [
      | inl passed ↦ inl passed
      | inr holds ↦ inr (keeps secret holds)
    ];
    opens = λ v challenge at opening. absurd (no_some challenge (ap (λ (x : View). x.opening) (seen_own (basis_of p unseen b) _ v at) ∙ opening));
    asked = λ unit is. absurd (no_some unit is);
  };
}

pub seed_fresh : (p : Pairing) (plans : List MemberPlan) (b : Book) (own : MemberPlan) → slice_get plans p.who ≡ Some own → StoppedSo p [] plans b → TiesHold p [] plans b (fresh_member own).running
seed_fresh p plans b own is stopped =
    alone_fresh p b stopped.seed.secrets own (holds_alike stopped.seed.secrets own.secrets (seed_alike p.who plans stopped.seed own is stopped.texts)) stopped.together

-- ---- a member begins to change its secret

waits_none : (st : Option Step) (how : Standing) (caller : Caller) (next : Option (List ℕ)) (number : ℕ) (stands : Option ChannelIdentity) (marks : List Mark) → next ≡ None →
    IsSetIn st how caller next → WaitsBy st number stands marks None
waits_none None how caller next number stands marks none set = refl
waits_none (Some (step.Bind c)) how caller next number stands marks none set = refl
waits_none (Some (step.Reply q)) how caller next number stands marks none set = refl
waits_none (Some (step.Set (set_step.Bind c))) how caller next number stands marks none set = refl
waits_none (Some (step.Set set_step.Reply)) how caller next number stands marks none set = absurd (no_some set.0 (sym none ∙ set.1))

pub begun_ties : (b : Basis) (marks : List Mark) (c : Requester) (secrets : SecretsState) (secret : List ℕ) → secrets.next ≡ None → TriesSecrets c secrets → Ties b marks c secrets →
    Ties b marks c (with_next secret secrets)
begun_ties b marks c secrets secret none tries ties =
    let free : next_of secrets ≡ None = ap (λ (next : Option Next). option_map (λ (n : Next). n.secret) next) none in
    record {
      coherent = ties.coherent;
      out = None;
      waits = waits_none (step_in c.turn) c.standing c.caller (next_of secrets) (number_in c.turn) (stands_in b.controller c.caller.computer c.standing) marks free tries.sets;
      together = goes_without b (view_of b.controller c) (view_of b.controller c) marks secrets (with_next secret secrets) ties.out (λ challenge is. is)
          (λ one holds. elim holds [
            | inl is ↦ inl is
            | inr is ↦ absurd (no_some one (sym free ∙ is))
          ]) ties.together;
    }

-- ---- marks of others

-- each call among these marks was one among those, or is one of another computer
abbrev pub CallsElsewhere : Basis → List Mark → List Mark → Type 0
CallsElsewhere b later marks =
    (unit number timestamp : ℕ) (c : ChannelIdentity) → slice_get later unit ≡ Some (Calling c number timestamp) →
    (slice_get marks unit ≡ Some (Calling c number timestamp)) ⊎ (IsOf b.controller b.computer c → ⊥)

stands_of : (controller : ℕ) (name computer : List ℕ) (how : Standing) (c : ChannelIdentity) → SameName name computer → stands_in controller name how ≡ Some c → IsOf controller computer c
stands_of controller name computer standing.Nothing c named is = absurd (no_some c is)
stands_of controller name computer (standing.Half client server) c named is = absurd (no_some c is)
stands_of controller name computer (standing.Open o) c named is = subst (λ (x : ChannelIdentity). IsOf controller computer x) (some_is _ c is) (record { controller_is = refl; computer_is = named })

waits_elsewhere : (b : Basis) (st : Option Step) (number : ℕ) (stands : Option ChannelIdentity) (marks later : List Mark) (out : Option ℕ) → CallsElsewhere b later marks →
    ((c : ChannelIdentity) → stands ≡ Some c → IsOf b.controller b.computer c) → WaitsBy st number stands marks out → WaitsBy st number stands later out
waits_elsewhere b None number stands marks later out were of waits = waits
waits_elsewhere b (Some (step.Bind c)) number stands marks later out were of waits = waits
waits_elsewhere b (Some (step.Reply q)) number stands marks later out were of waits = waits
waits_elsewhere b (Some (step.Set (set_step.Bind c))) number stands marks later out were of waits = waits
waits_elsewhere b (Some (step.Set set_step.Reply)) number stands marks later out were of waits =
    λ unit timestamp c is there. elim (were unit number timestamp c there) [
      | inl was ↦ waits unit timestamp c is was
      | inr other ↦ absurd (other (of c is))
    ]

together_elsewhere : (b : Basis) (r : Requests ℕ) (later : List Mark) (secrets : SecretsState) (out : Option ℕ) → CallsElsewhere b later r.marks →
    AreTogether r b.who b.controller b.computer b.accepted (with_held b secrets out) →
    AreTogether (record r { marks = later }) b.who b.controller b.computer b.accepted (with_held b secrets out)
together_elsewhere b r later secrets out were t = record {
  among = t.among;
  kept = t.kept;
  taken = t.taken;
  sets = λ unit number timestamp c kept secret there asks keeps same. elim (were unit number timestamp c there) [
    | inl was ↦ t.sets unit number timestamp c kept secret was asks keeps same
    | inr other ↦ absurd (other (of_same b.controller b.computer kept c (same_back c kept same) (t.kept kept keeps).0))
  ];
  opens = t.opens;
  asked = t.asked;
}

-- calls on other channels change nothing of what a member holds
pub marked_elsewhere : (b : Basis) (marks later : List Mark) (r : Option Running) (kept : SecretsState) → CallsElsewhere b later marks →
    ((running : Running) → r ≡ Some running → SameName running.logons.channel.caller.computer b.computer) → TiesIf b marks r kept → TiesIf b later r kept
marked_elsewhere b marks later None kept were named t =
    let its = together_elsewhere b (record { views = λ j. None; marks = marks; drawn = []; uses = 0 }) later kept None were t in
    record { among = its.among; kept = its.kept; taken = its.taken; sets = its.sets; opens = its.opens; asked = its.asked }
marked_elsewhere b marks later (Some running) kept were named ties =
    let c : Requester = running.logons.channel in
    let its = together_elsewhere b _ later running.logons.plan.secrets ties.out were ties.together in
    record {
      coherent = ties.coherent;
      out = ties.out;
      waits = waits_elsewhere b (step_in c.turn) (number_in c.turn) (stands_in b.controller c.caller.computer c.standing) marks later ties.out were
          (λ d is. stands_of b.controller c.caller.computer b.computer c.standing d (named running refl) is) ties.waits;
      together = record { among = its.among; kept = its.kept; taken = its.taken; sets = its.sets; opens = its.opens; asked = its.asked };
    }
