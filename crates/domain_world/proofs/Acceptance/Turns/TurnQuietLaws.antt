-- What holds of messages whose answer was taken, and of what is told, stays where no bytes come, where an action is
-- done, and where one thing changes beside that; and what ends gave is then written down.
-- It serves `schedules_are_heard`.
use Rattle.std.proofs.Common.{◌≡◌, ℕ, true, List, [], ◌∷◌, ◌++◌, length, map, inl, inr, Option, Some, None, Result, Ok, Err, refl, sym, ap, subst, ◌∙◌, slice_get, slice_set, false}
use Rattle.std.specs.List.{AllByRecursion}
use Rattle.std.proofs.lemmas.List.{append_assoc, append-nil, length-set}
use Rattle.outside.specs.Drawing.{Drawing}
use Rattle.outside.specs.declared.action.Action.{Action}
use Rattle.outside.specs.declared.action.Action.TheVariants as action
use Rattle.outside.specs.declared.action.Outcome.{Outcome}
use Rattle.outside.specs.declared.action.Outcome.TheVariants as outcome
use Rattle.outside.specs.declared.action.StepRefused.{StepRefused}
use Rattle.outside.specs.declared.event.Event.{Event}
use Rattle.outside.specs.declared.event.Event.TheVariants as event
use Rattle.member_server.specs.Laws.{IsGranted, IsTold, heard_in}
use Rattle.member_server.specs.Machine.{fresh_member, step_of, step_on}
use Rattle.member_server.specs.State.{State as MemberState}
use Rattle.channel_turns.specs.declared.state.Dialling.{Dialling}
use Rattle.member_server.specs.declared.state.Running.{Running}
use Rattle.member_server.proofs.KeptLaws.{lets_in_the_granted}
use Rattle.step_notes.specs.Records.{Book, MessageTaken, OutcomeTold, Sent}
use Rattle.wire_base.specs.Lists.{OneOf}
use Rattle.wire_base.proofs.ListLaws.{all_weaker, got_append, one_weaker}
use Rattle.step_notes.proofs.Members.KeptLogonLaws.{Dials, KeptIn, step_keeps}
use Rattle.step_notes.proofs.Members.TurnAnswerLaws.{none_whole}
use Rattle.world_moves.specs.declared.links.EndId.{EndId}
use Rattle.world_moves.specs.declared.links.EndId.TheVariants.{Controller, Member, Client}
use Rattle.world_moves.specs.declared.plan.Plan.{Plan}
use Rattle.world_moves.specs.declared.state.State.{State}
use Rattle.world_moves.specs.Acting.{Given, AfterHearing, given_by, heard_by, perform_quietly}
use Rattle.world_moves.specs.Counting.{is_in}
use Rattle.world_moves.specs.Ends.{EndStates, EndStep, actions_by, client_step, no_step}
use Rattle.world_moves.specs.Moving.{changed}
use Rattle.world_moves.specs.Alone.{alone_controller_step as controller_step, alone_end_step as end_step, hear_alone as hear}
use Rattle.world_moves.proofs.LinkFrameLaws.{quiet_stays}
use Rattle.world_moves.proofs.EndKindLaws.{is_member}
use Rattle.domain_world.specs.Accepting.ReadBack.{IsLetInInTurn, IsToldInTurn}
use Rattle.domain_world.specs.Past.{note_given, other_marks, sent_at, told_by, told_in}
use Rattle.domain_world.proofs.Frames.AloneStepLaws.{alone_by as step_by, renew_alone_by as renew_by, renewed_alone as renewed}
use Rattle.domain_world.proofs.Acceptance.Turns.TurnFactLaws.{Any, GrowsTo, HasFree, IsAnswered, IsKnown, KeepFree, SameEnds, TurnFacts, facts_stay, past_at}
use Rattle.domain_world.proofs.Messages.MessageOnceLaws.{each_put}
use Rattle.domain_world.proofs.Moves.ComingLaws.{StillHas, StillIn, kept_same, kept_sent}
use Rattle.domain_world.proofs.Frames.GivenLaws.{told_cases}
use Rattle.world_moves.proofs.ChangeLaws.{by_change, member_begun}
use Rattle.world_moves.specs.Plain.{plain_member_step as member_step}

-- ---- what is told, also in the move that is under way

-- what was told, with what ends gave in the move and what isn't written down yet
abbrev pub told_yet : Given → Book → List OutcomeTold
told_yet given b = b.told ++ told_in given 0

told_append : (one other : Given) (at : ℕ) → told_in (one ++ other) at ≡ told_in one at ++ told_in other at
told_append [] other at = refl
told_append (item ∷ one) other at =
    ap (λ (rest : List OutcomeTold). told_by item.0 item.1 at ++ rest) (told_append one other at) ∙ sym (append_assoc (told_by item.0 item.1 at) (told_in one at) (told_in other at))

pub yet_more : (given more : Given) (b : Book) → told_yet (given ++ more) b ≡ told_yet given b ++ told_in more 0
yet_more given more b = ap (λ (told : List OutcomeTold). b.told ++ told) (told_append given more 0) ∙ sym (append_assoc b.told (told_in given 0) (told_in more 0))

-- members alone tell of logons
silent_by : (end : EndId) → is_member end ≡ false → (what : Action) → told_by end what 0 ≡ []
silent_by end other what =
    told_cases (λ (told : ℕ → List OutcomeTold). told 0 ≡ []) end what refl (λ member link how same tells. absurd (let never : true ≡ false = sym (ap is_member same) ∙ other in cc))

pub others_tell : (end : EndId) → is_member end ≡ false → (actions : List Action) → told_in (given_by end actions) 0 ≡ []
others_tell end other [] = refl
others_tell end other (what ∷ actions) =
    ap (λ (first : List OutcomeTold). first ++ told_in (given_by end actions) 0) (silent_by end other what) ∙ others_tell end other actions

-- who is let in by a member, by what was granted at its step
abbrev pub told_of : ℕ → ℕ → Outcome → OutcomeTold
told_of member link how = record { at = 0; member = member; link = link; outcome = how }

module _ (Fact : OutcomeTold → Type 0) (at : ℕ) (running : Running) (what : Event) (so : (link : ℕ) (how : Outcome) → IsGranted running what link how → Fact (told_of at link how)) where
  pub granted_known : (actions : List Action) → AllByRecursion (IsTold running what) actions →
      AllByRecursion (λ (one : OutcomeTold). is_in one.outcome ≡ true → Fact one) (told_in (given_by (Member at) actions) 0)
  granted_known [] told = tt
  granted_known (action.Keep bytes ∷ actions) told = granted_known actions told.1
  granted_known (action.Send link bytes ∷ actions) told = granted_known actions told.1
  granted_known (action.Dial peer ∷ actions) told = granted_known actions told.1
  granted_known (action.Close link cause ∷ actions) told = granted_known actions told.1
  granted_known (action.Told link (outcome.In domain user key) ∷ actions) told = ((λ is. so link (outcome.In domain user key) told.0), granted_known actions told.1)
  granted_known (action.Told link (outcome.Out status) ∷ actions) told = ((λ is. absurd (let x = is in cc)), granted_known actions told.1)
  granted_known (action.Told link (outcome.NoController cause) ∷ actions) told = ((λ is. absurd (let x = is in cc)), granted_known actions told.1)
  granted_known (action.Judged how ∷ actions) told = granted_known actions told.1

-- where no whole unit comes on the link of its turn, it lets in nobody
abbrev pub IsSilent : Option Running → Event → Type 0
IsSilent None what = Unit {0}
IsSilent (Some running) what = heard_in what running.dialling ≡ []

answer_silent : (Fact : OutcomeTold → Type 0) (at : ℕ) (running : Running) (what : Event) (answer : Result (List Action) StepRefused) → heard_in what running.dialling ≡ [] →
    AllByRecursion (IsTold running what) (actions_by answer) → AllByRecursion (λ (one : OutcomeTold). is_in one.outcome ≡ true → Fact one) (told_in (given_by (Member at) (actions_by answer)) 0)
answer_silent Fact at running what (Err why) none told = tt
answer_silent Fact at running what (Ok actions) none told =
    granted_known Fact at running what (λ link how granted. absurd (none_whole granted.earlier granted.unit granted.later (sym none ∙ granted.hears))) actions told

pub member_silent : (Fact : OutcomeTold → Type 0) (r : Option Running) (m : MemberState) (at : ℕ) (what : Event) (now : ℕ) (left : List (List ℕ)) → m.running ≡ r → IsSilent r what →
    AllByRecursion (λ (one : OutcomeTold). is_in one.outcome ≡ true → Fact one) (told_in (given_by (Member at) (actions_by (step_of m what now left).answer)) 0)
member_silent Fact None m at what now left is none =
    subst (λ (r : Option Running). AllByRecursion (λ (one : OutcomeTold). is_in one.outcome ≡ true → Fact one) (told_in (given_by (Member at) (actions_by (step_on r m what now left).answer)) 0)) (sym is) tt
member_silent Fact (Some running) m at what now left is none = answer_silent Fact at running what (step_of m what now left).answer none (lets_in_the_granted.told m running what now left is)

calm_heard : (Own : ℕ → Type 0) (what : Event) (how : Dialling) → Dials Own what → heard_in what how ≡ []
calm_heard Own (event.Opened link) how dials = refl
calm_heard Own (event.Bytes link piece) how dials = absurd dials
calm_heard Own (event.Closed link) how dials = refl
calm_heard Own (event.Dialled link) how dials = refl
calm_heard Own event.DialFailed how dials = refl
calm_heard Own event.Stop how dials = refl

calm_silent : (Own : ℕ → Type 0) (r : Option Running) (what : Event) → Dials Own what → IsSilent r what
calm_silent Own None what dials = tt
calm_silent Own (Some running) what dials = calm_heard Own what running.dialling dials

-- ---- ends

pub same_ends : (ends : EndStates) → SameEnds ends ends
same_ends ends = record { controllers = refl; members = refl; clients = refl; stations = refl }

pub step_same : (end : EndId) (what : Event) (now : ℕ) (ends : EndStates) (chances : Drawing) → SameEnds ends (end_step end what now ends chances).ends
step_same end what now ends chances =
    step_by (λ (one : EndId) (step : EndStep). SameEnds ends step.ends) what now ends chances (λ one. same_ends ends)
    (λ at c is. record { controllers = sym (length-set ends.controllers at _); members = refl; clients = refl; stations = refl })
    (λ at m is. record { controllers = refl; members = sym (length-set ends.members at _); clients = refl; stations = refl })
    (λ at c is. record { controllers = refl; members = refl; clients = sym (length-set ends.clients at _); stations = refl }) end

pub hear_same : (end : EndId) (what : Event) (s : State) → SameEnds s.ends (hear end what s).state.ends
hear_same end what s = step_same end what s.moment s.ends s.chances

-- ---- an end hears something

-- where that end is no member
pub others_hear : (plan : Plan) (s t : State) (b d : Book) (given more : Given) → GrowsTo s t b d → t.ends.members ≡ s.ends.members → d.told ≡ b.told → told_in more 0 ≡ [] →
    TurnFacts plan s b b.messages b.answers (told_yet given b) → TurnFacts plan t d b.messages b.answers (told_yet (given ++ more) d)
others_hear plan s t b d given more grows members told none facts =
    subst (λ (all : List OutcomeTold). TurnFacts plan t d b.messages b.answers all)
    (sym (yet_more given more d ∙ ap (λ (old : List OutcomeTold). (old ++ told_in given 0) ++ told_in more 0) told))
    (facts_stay plan s t b d grows b.messages b.answers (told_yet given b) (told_in more 0)
    (subst (λ (new : List OutcomeTold). AllByRecursion (IsKnown plan t d b.messages) new) (sym none) tt)
    (subst (λ (all : List MemberState). KeepFree all b.messages) (sym members) facts.free) facts)

-- facts of turns where a member heard something
pub member_heard : (plan : Plan) (s t : State) (b d : Book) (given more : Given) → GrowsTo s t b d → d.told ≡ b.told →
    AllByRecursion (IsKnown plan t d b.messages) (told_in more 0) → KeepFree t.ends.members b.messages →
    TurnFacts plan s b b.messages b.answers (told_yet given b) → TurnFacts plan t d b.messages b.answers (told_yet (given ++ more) d)
member_heard plan s t b d given more grows told known free facts =
    subst (λ (all : List OutcomeTold). TurnFacts plan t d b.messages b.answers all)
    (sym (yet_more given more d ∙ ap (λ (old : List OutcomeTold). (old ++ told_in given 0) ++ told_in more 0) told))
    (facts_stay plan s t b d grows b.messages b.answers (told_yet given b) (told_in more 0) known free facts)

pub hear_grows : (end : EndId) (what : Event) (s : State) (b d : Book) → ((k : ℕ) (one : Sent) → slice_get b.sent k ≡ Some one → slice_get d.sent k ≡ Some one) → GrowsTo s (hear end what s).state b d
hear_grows end what s b d sent = record { bag = kept_same s.bag; sent = sent; ends = hear_same end what s }

pub free_put : (members : List MemberState) (at : ℕ) (new : MemberState) (messages : List MessageTaken) → KeepFree members messages → KeptIn (HasFree at messages) Any new.running →
    KeepFree (slice_set members at new) messages
free_put members at new messages free kept k m there =
    each_put (λ (n : ℕ) (x : MemberState). KeptIn (HasFree n messages) Any x.running) members at new (λ j item differs is. free j item is) kept k m there

module _ (plan : Plan) where
  member_hears : (m : MemberState) (at : ℕ) (what : Event) (s : State) (given : Given) (b : Book) → slice_get s.ends.members at ≡ Some m → Dials Any what →
      TurnFacts plan s b b.messages b.answers (told_yet given b) →
      let t : AfterHearing = heard_by (member_step (Some m) at what s.moment s.ends s.chances) s in
      SameEnds s.ends t.state.ends → TurnFacts plan t.state b b.messages b.answers (told_yet (given ++ given_by (Member at) t.actions) b)
  member_hears m at what s given b is dials facts same =
      let t : AfterHearing = heard_by (member_step (Some m) at what s.moment s.ends s.chances) s in
      member_heard plan s t.state b b given (given_by (Member at) t.actions) (record { bag = kept_same s.bag; sent = λ k one there. there; ends = same }) refl
      (member_silent (λ (one : OutcomeTold). OneOf (λ (message : MessageTaken). IsLetInInTurn (past_at plan t.state b) one message) b.messages) m.running m at what s.moment s.chances.left refl
      (calm_silent Any m.running what dials))
      (free_put s.ends.members at (step_of m what s.moment s.chances.left).state b.messages facts.free
      (step_keeps (HasFree at b.messages) Any what m s.moment s.chances.left dials (facts.free at m is)))
      facts

  others_heard : (end : EndId) (step : EndStep) (s : State) (given : Given) (b : Book) → step.ends.members ≡ s.ends.members → told_in (given_by end step.actions) 0 ≡ [] →
      TurnFacts plan s b b.messages b.answers (told_yet given b) → SameEnds s.ends step.ends → TurnFacts plan (heard_by step s).state b b.messages b.answers (told_yet (given ++ given_by end step.actions) b)
  others_heard end step s given b members none facts same =
      others_hear plan s (heard_by step s).state b b given (given_by end step.actions) (record { bag = kept_same s.bag; sent = λ k one there. there; ends = same }) members refl none facts

  -- no bytes come
  pub quiet_hears : (end : EndId) (what : Event) (s : State) (given : Given) (b : Book) → Dials Any what → TurnFacts plan s b b.messages b.answers (told_yet given b) →
      TurnFacts plan (hear end what s).state b b.messages b.answers (told_yet (given ++ given_by end (hear end what s).actions) b)
  quiet_hears end what s given b dials facts =
      step_by (λ (one : EndId) (step : EndStep).
      SameEnds s.ends step.ends → TurnFacts plan (heard_by step s).state b b.messages b.answers (told_yet (given ++ given_by one step.actions) b)) what s.moment s.ends s.chances
      (λ one. others_heard one (no_step s.ends s.chances) s given b refl refl facts)
      (λ at c is. others_heard (Controller at) (controller_step (Some c) at what s.moment s.ends s.chances) s given b refl
      (others_tell (Controller at) refl (controller_step (Some c) at what s.moment s.ends s.chances).actions) facts)
      (λ at m is. member_hears m at what s given b is dials facts)
      (λ at c is. others_heard (Client at) (client_step (Some c) at what s.moment s.ends s.chances) s given b refl
      (others_tell (Client at) refl (client_step (Some c) at what s.moment s.ends s.chances).actions) facts) end
      (step_same end what s.moment s.ends s.chances)

-- ---- one thing changes

-- the members stay
pub changed_stays : (plan : Plan) (s t : State) (given : Given) (b : Book) → StillHas s.bag t.bag → SameEnds s.ends t.ends → KeepFree t.ends.members b.messages →
    TurnFacts plan s b b.messages b.answers (told_yet given b) → TurnFacts plan t b b.messages b.answers (told_yet given b)
changed_stays plan s t given b still same free facts =
    subst (λ (all : List OutcomeTold). TurnFacts plan t b b.messages b.answers all) (append-nil (told_yet given b))
    (facts_stay plan s t b b (record { bag = still; sent = λ k one there. there; ends = same }) b.messages b.answers (told_yet given b) [] tt free facts)

-- an action is done
pub action_still : (end : EndId) (what : Action) (s : State) → StillHas s.bag (perform_quietly end what s).bag
action_still end what s = quiet_stays (StillIn s.bag) (kept_sent s.bag) end what s (kept_same s.bag)

pub acts_stay : (plan : Plan) (end : EndId) (what : Action) (s : State) (given : Given) (b : Book) → TurnFacts plan s b b.messages b.answers (told_yet given b) →
    TurnFacts plan (perform_quietly end what s) b b.messages b.answers (told_yet given b)
acts_stay plan end what s given b facts = changed_stays plan s (perform_quietly end what s) given b (action_still end what s) (same_ends s.ends) facts.free facts

-- an end is made anew
pub renew_same : (end : EndId) (s : State) → SameEnds s.ends (renewed end s).ends
renew_same end s =
    renew_by (λ (one : EndId) (ends : EndStates). SameEnds s.ends ends) s (λ one. same_ends s.ends)
    (λ at c is. record { controllers = sym (length-set s.ends.controllers at _); members = refl; clients = refl; stations = refl })
    (λ at plan is. record { controllers = refl; members = sym (length-set s.ends.members at _); clients = refl; stations = refl })
    (λ at plan is. record { controllers = refl; members = refl; clients = sym (length-set s.ends.clients at _); stations = refl }) end

renew_free : (end : EndId) (s : State) (messages : List MessageTaken) → KeepFree s.ends.members messages → KeepFree (renewed end s).ends.members messages
renew_free end s messages free =
    renew_by (λ (one : EndId) (ends : EndStates). KeepFree ends.members messages) s (λ one. free) (λ at c is. free)
    (λ at own is. free_put s.ends.members at (fresh_member own) messages free (tt, tt)) (λ at plan is. free) end

pub renew_stays : (plan : Plan) (end : EndId) (s : State) (given : Given) (b : Book) → TurnFacts plan s b b.messages b.answers (told_yet given b) →
    TurnFacts plan (renewed end s) b b.messages b.answers (told_yet given b)
renew_stays plan end s given b facts =
    changed_stays plan s (renewed end s) given b (kept_same s.bag) (renew_same end s) (renew_free end s b.messages facts.free) facts

-- a member begins to change its secret
pub change_same : (at : ℕ) (secret : List ℕ) (s : State) → SameEnds s.ends (changed at secret s).state.ends
change_same at secret s =
    by_change (λ (ends : EndStates) (actions : List Action). SameEnds s.ends ends) at secret s.ends (same_ends s.ends)
    (λ running is none. record { controllers = refl; members = sym (length-set s.ends.members at _); clients = refl; stations = refl })

change_tells : (at : ℕ) (secret : List ℕ) (s : State) → told_in (given_by (Member at) (changed at secret s).actions) 0 ≡ []
change_tells at secret s = by_change (λ (ends : EndStates) (actions : List Action). told_in (given_by (Member at) actions) 0 ≡ []) at secret s.ends refl (λ running is none. refl)

change_free : (at : ℕ) (secret : List ℕ) (s : State) (messages : List MessageTaken) → KeepFree s.ends.members messages → KeepFree (changed at secret s).state.ends.members messages
change_free at secret s messages free =
    by_change (λ (ends : EndStates) (actions : List Action). KeepFree ends.members messages) at secret s.ends free
    (λ running is none. free_put s.ends.members at (member_begun secret running) messages free (free at (record { running = Some running }) is))

pub change_stays : (plan : Plan) (at : ℕ) (secret : List ℕ) (s : State) (given : Given) (b : Book) → TurnFacts plan s b b.messages b.answers (told_yet given b) →
    TurnFacts plan (changed at secret s).state b b.messages b.answers (told_yet (given ++ given_by (Member at) (changed at secret s).actions) b)
change_stays plan at secret s given b facts =
    let t : AfterHearing = changed at secret s in
    member_heard plan s t.state b b given (given_by (Member at) t.actions) (record { bag = kept_same s.bag; sent = λ k one there. there; ends = change_same at secret s }) refl
    (subst (λ (new : List OutcomeTold). AllByRecursion (IsKnown plan t.state b b.messages) new) (sym (change_tells at secret s)) tt) (change_free at secret s b.messages facts.free) facts

-- ---- what ends gave is written down

abbrev moved_to : ℕ → OutcomeTold → OutcomeTold
moved_to at told = record told { at = at }

by_moved : (end : EndId) (what : Action) (at : ℕ) → told_by end what at ≡ map (moved_to at) (told_by end what 0)
by_moved end what at =
    told_cases (λ (told : ℕ → List OutcomeTold). told at ≡ map (moved_to at) (told 0)) end what refl (λ member link how same tells. refl)

map_append : {T : Type 0} (f : T → T) (items more : List T) → map f (items ++ more) ≡ map f items ++ map f more
map_append f [] more = refl
map_append f (item ∷ items) more = ap (λ (rest : List _). f item ∷ rest) (map_append f items more)

in_moved : (given : Given) (at : ℕ) → told_in given at ≡ map (moved_to at) (told_in given 0)
in_moved [] at = refl
in_moved (one ∷ given) at =
    ap (λ (first : List OutcomeTold). first ++ told_in given at) (by_moved one.0 one.1 at)
    ∙ ap (λ (rest : List OutcomeTold). map (moved_to at) (told_by one.0 one.1 0) ++ rest) (in_moved given at)
    ∙ sym (map_append (moved_to at) (told_by one.0 one.1 0) (told_in given 0))

one_moved : (P : OutcomeTold → Type 0) (f : OutcomeTold → OutcomeTold) → ((told : OutcomeTold) → P told → P (f told)) → (all more : List OutcomeTold) → OneOf P (all ++ more) → OneOf P (all ++ map f more)
one_moved P f so [] [] one = absurd one
one_moved P f so [] (told ∷ more) one = elim one [ inl here ↦ inl (so told here) | inr later ↦ inr (one_moved P f so [] more later) ]
one_moved P f so (first ∷ all) more one = elim one [ inl here ↦ inl here | inr later ↦ inr (one_moved P f so all more later) ]

all_moved : (P : OutcomeTold → Type 0) (f : OutcomeTold → OutcomeTold) → ((told : OutcomeTold) → P told → P (f told)) → (all more : List OutcomeTold) → AllByRecursion P (all ++ more) → AllByRecursion P (all ++ map f more)
all_moved P f so [] [] each = tt
all_moved P f so [] (told ∷ more) each = (so told each.0, all_moved P f so [] more each.1)
all_moved P f so (first ∷ all) more each = (each.0, all_moved P f so all more each.1)

pub over_grows : (at : ℕ) (given : Given) (s : State) (b : Book) → GrowsTo s s b (note_given at given s b)
over_grows at given s b = record { bag = kept_same s.bag; sent = λ k one there. got_append b.sent (map (sent_at at) (other_marks b.forwards s (length b.sent))) k one there; ends = same_ends s.ends }

pub over_stays : (plan : Plan) (at : ℕ) (s : State) (given : Given) (b : Book) → TurnFacts plan s b b.messages b.answers (told_yet given b) →
    TurnFacts plan s (note_given at given s b) b.messages b.answers (told_yet [] (note_given at given s b))
over_stays plan at s given b facts =
    let d : Book = note_given at given s b in
    let yet : List OutcomeTold = told_yet given b in
    let later : TurnFacts plan s d b.messages b.answers (yet ++ []) =
    facts_stay plan s s b d (over_grows at given s b) b.messages b.answers yet [] tt facts.free facts in
    let same : TurnFacts plan s d b.messages b.answers yet = subst (λ (all : List OutcomeTold). TurnFacts plan s d b.messages b.answers all) (append-nil yet) later in
    let moved : b.told ++ map (moved_to at) (told_in given 0) ≡ told_yet [] d =
    ap (λ (more : List OutcomeTold). b.told ++ more) (sym (in_moved given at)) ∙ sym (append-nil (b.told ++ told_in given at)) in
    subst (λ (all : List OutcomeTold). TurnFacts plan s d b.messages b.answers all) moved (record {
      taken = same.taken;
      answered = all_weaker (IsAnswered plan s d b.answers yet) (IsAnswered plan s d b.answers (b.told ++ map (moved_to at) (told_in given 0))) b.messages
          (λ message answered u reply.
          let its = answered u reply in (
            its.0,
            one_moved (λ (told : OutcomeTold). IsToldInTurn (past_at plan s d) message u told) (moved_to at) (λ told is. record { link = is.link; member = is.member; reading = is.reading }) b.told
                (told_in given 0) its.1,
          )) same.answered;
      let_in = all_moved (IsKnown plan s d b.messages) (moved_to at)
          (λ told known is.
          one_weaker (λ (message : MessageTaken). IsLetInInTurn (past_at plan s d) told message) (λ (message : MessageTaken). IsLetInInTurn (past_at plan s d) (moved_to at told) message) b.messages
          (λ message its. record {
            unit = its.unit;
            reply = its.reply;
            turn = record { link = its.turn.link; member = its.turn.member; reading = its.turn.reading };
          }) (known is)) b.told (told_in given 0) same.let_in;
      free = same.free;
    })
