-- In every run a replayed authenticator passes again exactly where the timestamps that passed since, each plus one, sum
-- to a multiple of 2^32. It serves `Proved.replays`.
use Rattle.std.proofs.Common.{◌≡◌, ◌≢◌, ◌↔◌, ℕ, zero, suc, ◌+◌, ◌-◌, ◌%◌, ◌^◌, Bool, true, false, List, [], ◌∷◌, ◌++◌, Option, Some, None, AllPairs, refl, sym, ap, ap₂, subst, ◌∙◌, arith, slice_get}
use Rattle.std.proofs.lemmas.List.Elements.{recursion_from_All}
use Rattle.wire_base.specs.declared.authenticator.Authenticator.{Authenticator}
use Rattle.wire_base.proofs.ListLaws.{some_is}
use Rattle.channel_keys.specs.Credentials.{cred_of}
use Rattle.channel_keys.specs.Des.{IsBlock}
use Rattle.channel_keys.proofs.CredLaws.{IsBlock-cred_of}
use Rattle.authenticators.specs.Channels.{ChannelIdentity, SameChannel, channel_key}
use Rattle.authenticators.specs.Sequences.{Passes, add_to, moved_by, seed_after}
use Rattle.authenticators.specs.SecureChannels.{SecureChannelState, key_of_channel, channel_of}
use Rattle.authenticators.proofs.ChannelLaws.{channel_key-same}
use Rattle.authenticators.proofs.ReplayLaws.{replay}
use Rattle.authenticators.proofs.SeedLaws.{IsBlock-add_to, add_to-add_to, seed_after-moved_by}
use Rattle.outside.specs.Counter.{most_draws}
use Rattle.outside.proofs.CounterLaws.{challenges_from-distinct}
use Rattle.account_table.specs.AccountTable.{AccountTable}
use Rattle.domain_controller.specs.State.{State as ControllerState}
use Rattle.step_notes.specs.ControllerNotes.{channel_in, has_passed}
use Rattle.step_notes.specs.Judged.{IsNextOn, channel_if}
use Rattle.step_notes.specs.Marking.{is_channel}
use Rattle.step_notes.specs.Records.{Judging, computer_named, given_in, timestamp_in}
use Rattle.world_moves.specs.declared.moves.Move.{Move}
use Rattle.world_moves.specs.declared.plan.Plan.{Plan}
use Rattle.world_moves.specs.World.{first_controllers}
use Rattle.world_moves.specs.Ends.{fresh_controller}
use Rattle.world_moves.specs.Plain.{IsPlainPlan, plain_world}
use Rattle.domain_world.specs.Claims.{ReplaysBySum, moved_if, moved_on, passed_on, judged_timestamp}
use Rattle.domain_world.specs.Past.{numbers_on, past}
use Rattle.channel_events.proofs.TimestampLaws.{moved_none, moved_one}
use Rattle.channel_events.proofs.SameLaws.{one_channel}
use Rattle.domain_world.proofs.Frames.AloneStepLaws.{fresh_by}
use Rattle.domain_world.proofs.Judgements.JudgedLaws.{AreRight, judged_rightly}
use Rattle.domain_world.proofs.Judgements.MovedLaws.{found_in, moved_append, moved_same}
use Rattle.domain_world.proofs.Judgements.SeedLaws.{AreApart, AreKept, AreMoved, AreUnheard, IsMovedIn}
use Rattle.domain_world.proofs.Judgements.SeedStepLaws.{AreKeptIf, SeedsFollow, bytes_follow, controller_put, drawn_follow, quiet_follow}
use Rattle.domain_world.proofs.Frames.ControllerFrameLaws.{ControllersFact}
use Rattle.domain_world.proofs.Frames.TrustingFrameLaws.{KeepsTrusting, controllers_after}
use Rattle.domain_world.proofs.Frames.EndNoteLaws.{judged_so, judgings_of}

-- ---- through the moves

-- the seeds follow, by the parts of a world
abbrev pub Follows : List Judging → ControllersFact
Follows judgings controllers chances = SeedsFollow judgings chances.left controllers

-- a controller that is made anew keeps nothing of computers
fresh_kept : (judgings : List Judging) (left : List (List ℕ)) (controller : ℕ) → AreKept judgings left controller (record { pending = []; channels = []; sessions = [] })
fresh_kept judgings left controller = record {
  map = λ i j d lt within. absurd (omega (arith, within));
  each = λ name. record { channels = λ c there. absurd cc; pairs = λ pair waits. absurd cc; differ = λ c pair there waits. absurd cc };
}

follow_on : KeepsTrusting judgings_of Follows
follow_on = record {
  of = judged_so;
  given = λ at given after b. refl;
  draws = λ judgings controllers chances later on follow. drawn_follow judgings chances.left later.left controllers on.rest follow;
  hears = λ judgings c at what now controllers chances none is follow. quiet_follow c judgings at what now controllers chances.left is none follow;
  comes = λ c at w piece s after b is follow.
      bytes_follow c b.judged at w piece s (numbers_on w.link true s.bag after.bag) is follow;
  anew = λ judgings c at hands_on controllers chances is follow.
      let left : List (List ℕ) = chances.left in
      controller_put judgings judgings left left controllers at (fresh_controller hands_on false c.table c.name) follow (record {
        order = follow.order;
        kept = fresh_by (λ (new : ControllerState). AreKeptIf judgings left at new.running) c.table c.name (fresh_kept judgings left at) (fresh_kept judgings left at) hands_on;
        fewer = record { front = []; is = refl };
        others = λ channel apart. refl;
      });
}

-- ---- at first

none_heard : (left : List (List ℕ)) → AreUnheard [] left
none_heard [] = tt
none_heard (one ∷ left) = (λ channel is. refl, none_heard left)

pub apart_from : (left : List (List ℕ)) → AllPairs (λ one other. one ≢ other) left → AreApart left
apart_from [] differ = tt
apart_from (challenge ∷ left) differ = (
  recursion_from_All (λ (one : List ℕ). one ≢ challenge) left (λ place d within same. differ 0 (suc place) d (omega arith) (omega (arith, within)) (sym same)),
  apart_from left (λ i j d lt within. differ (suc i) (suc j) d (omega (arith, lt)) (omega (arith, within))),
)

fresh_controllers : (hands_on : Bool) (tables : List AccountTable) (names : List (List ℕ)) (judgings : List Judging) (left : List (List ℕ)) (controller at : ℕ) (c : ControllerState) →
    slice_get (first_controllers hands_on false tables names) at ≡ Some c → AreKeptIf judgings left controller c.running
fresh_controllers hands_on [] names judgings left controller at c there = absurd cc
fresh_controllers hands_on (table ∷ tables) [] judgings left controller at c there = absurd cc
fresh_controllers hands_on (table ∷ tables) (name ∷ names) judgings left controller zero c there =
    let is : fresh_controller hands_on false table name ≡ c = cc in
    let kept = fresh_kept judgings left controller in
    subst (λ (x : ControllerState). AreKeptIf judgings left controller x.running) is
    (fresh_by (λ (x : ControllerState). AreKeptIf judgings left controller x.running) table name kept kept hands_on)
fresh_controllers hands_on (table ∷ tables) (name ∷ names) judgings left controller (suc at) c there = fresh_controllers hands_on tables names judgings left controller at c there

first_follows : (plan : Plan) → SeedsFollow [] (plain_world plan).state.chances.left (plain_world plan).state.ends.controllers
first_follows plan =
    let left : List (List ℕ) = (plain_world plan).state.chances.left in
    record {
      order = record { moved = tt; unheard = none_heard left; apart = apart_from left (challenges_from-distinct plan.seed 0 (most_draws - 0) (omega arith) (omega arith)) };
      each = λ at c there. fresh_controllers plan.hands_on plan.tables plan.controllers [] left at at c there;
    }

-- after every run what each controller keeps of computers follows what was judged
pub seeds_kept : (plan : Plan) (moves : List Move) → IsPlainPlan plan →
    SeedsFollow (past plan moves).book.judged (past plan moves).world.state.chances.left (past plan moves).world.state.ends.controllers
seeds_kept plan moves nothing = controllers_after judgings_of Follows follow_on plan moves nothing (first_follows plan)

-- in every run each call that was judged met its channel's seed moved so
seeds_follow : (plan : Plan) (moves : List Move) → IsPlainPlan plan → AreMoved (past plan moves).book.judged
seeds_follow plan moves nothing = (seeds_kept plan moves nothing).order.moved

-- ---- the claim

later_moved : (later : List Judging) (j : Judging) (earlier : List Judging) → AreMoved (later ++ j ∷ earlier) → AreMoved (j ∷ earlier)
later_moved [] j earlier moved = moved
later_moved (one ∷ later) j earlier moved = later_moved later j earlier moved.1

later_right : (later : List Judging) (j : Judging) (earlier : List Judging) → AreRight (later ++ j ∷ earlier) → AreRight (j ∷ earlier)
later_right [] j earlier right = right
later_right (one ∷ later) j earlier right = later_right later j earlier right.1

-- the call is checked on the channel
pub record IsOn (j : Judging) (channel : ChannelIdentity) : Type 0 where
  pub name : List ℕ
  pub state : SecureChannelState
  pub named : computer_named j.asked ≡ Some name
  pub stands : j.checks ≡ Some state
  pub same : SameChannel (channel_of j.controller name state) channel

on_by : (found : Option ChannelIdentity) (j : Judging) (channel : ChannelIdentity) → channel_in j.controller (computer_named j.asked) j.checks ≡ found → is_channel found channel ≡ true → IsOn j channel
on_by None j channel is same = absurd cc
on_by (Some other) j channel is same =
    let found = found_in j.controller (computer_named j.asked) j.checks other is in
    record {
      name = found.name;
      state = found.state;
      named = found.named;
      stands = found.stands;
      same = subst (λ (c : ChannelIdentity). SameChannel c channel) (sym found.is) (one_channel other channel same);
    }

pub on_if : (passed : Bool) (j : Judging) (channel : ChannelIdentity) → is_channel (channel_if passed j) channel ≡ true → (passed ≡ true) × IsOn j channel
on_if false j channel same = absurd cc
on_if true j channel same = (refl, on_by (channel_in j.controller (computer_named j.asked) j.checks) j channel refl same)

module _ (j : Judging) (channel : ChannelIdentity) (on : IsOn j channel) where
  key_is : key_of_channel on.state ≡ channel_key channel
  key_is = channel_key-same (channel_of j.controller on.name on.state) channel on.same

  -- the seed that the call met
  seed_is : (older : List Judging) → AreMoved (j ∷ older) → on.state.seed ≡ add_to (cred_of (channel_key channel) channel.client) (moved_on channel older)
  seed_is older moved =
      (subst (λ (o : Option (List ℕ)). IsMovedIn older j.controller o j.checks) on.named moved.0) on.state on.stands
      ∙ ap₂ (λ (key client : List ℕ). add_to (cred_of key client) (moved_on (channel_of j.controller on.name on.state) older)) key_is on.same.client
      ∙ ap (λ (n : ℕ). add_to (cred_of (channel_key channel) channel.client) n) (moved_same (channel_of j.controller on.name on.state) channel on.same older)

  -- the authenticator of a call passes there where it is the next one
  next_passes : (seed : List ℕ) (given : Authenticator) → on.state.seed ≡ seed → given_in j.asked ≡ Some given → IsNextOn j.checks (given_in j.asked) → Passes (channel_key channel) seed given
  next_passes seed given is there next =
      let state : next.channel ≡ on.state = some_is next.channel on.state (sym next.stands ∙ on.stands) in
      let own : next.given ≡ given = some_is next.given given (sym next.there ∙ there) in
      subst (λ (s : List ℕ). Passes (channel_key channel) s given) is
      (subst (λ (key : List ℕ). Passes key on.state.seed given) key_is
      (subst (λ (c : SecureChannelState). Passes (key_of_channel c) c.seed given) state
      (subst (λ (g : Authenticator). Passes (key_of_channel next.channel) next.channel.seed g) own next.passes)))

  passes_next : (seed : List ℕ) (given : Authenticator) → on.state.seed ≡ seed → given_in j.asked ≡ Some given → Passes (channel_key channel) seed given → IsNextOn j.checks (given_in j.asked)
  passes_next seed given is there pass = record {
    channel = on.state;
    given = given;
    stands = on.stands;
    there = there;
    passes = subst (λ (key : List ℕ). Passes key on.state.seed given) (sym key_is) (subst (λ (s : List ℕ). Passes (channel_key channel) s given) (sym is) pass);
  }

-- the timestamps that passed on a channel, the newest first
abbrev pub timestamp_if : Bool → ℕ → List ℕ → List ℕ
timestamp_if false timestamp timestamps = timestamps
timestamp_if true timestamp timestamps = timestamp ∷ timestamps

abbrev pub timestamps_on : ChannelIdentity → List Judging → List ℕ
timestamps_on channel [] = []
timestamps_on channel (j ∷ judgings) = timestamp_if (passed_on channel j) (judged_timestamp j) (timestamps_on channel judgings)

moved_if_one : (passed : Bool) (timestamp : ℕ) (timestamps : List ℕ) (moved : ℕ) → moved_by timestamps ≡ moved → moved_by (timestamp_if passed timestamp timestamps) ≡ moved_if passed timestamp moved
moved_if_one false timestamp timestamps moved is = is
moved_if_one true timestamp timestamps moved is = moved_one timestamp timestamps ∙ ap (λ (n : ℕ). timestamp + 1 + n) is

moved_sum : (channel : ChannelIdentity) (judgings : List Judging) → moved_by (timestamps_on channel judgings) ≡ moved_on channel judgings
moved_sum channel [] = moved_none
moved_sum channel (j ∷ judgings) =
    moved_if_one (passed_on channel j) (judged_timestamp j) (timestamps_on channel judgings) (moved_on channel judgings) (moved_sum channel judgings)

-- a call that passed moves the seed by its timestamp plus one
moved_first : (channel : ChannelIdentity) (j : Judging) (older : List Judging) (timestamp : ℕ) → passed_on channel j ≡ true → judged_timestamp j ≡ timestamp →
    moved_on channel (j ∷ older) ≡ timestamp + 1 + moved_on channel older
moved_first channel j older timestamp passed is =
    ap (λ (b : Bool). moved_if b (judged_timestamp j) (moved_on channel older)) passed ∙ ap (λ (n : ℕ). n + 1 + moved_on channel older) is

-- a call that passed on a channel, and those that were judged after it
module _ (channel : ChannelIdentity) (between earlier : List Judging) (first : Judging) (given : Authenticator) (passed : passed_on channel first ≡ true)
    (there : given_in first.asked ≡ Some given) where
  sum_between : moved_by (given.timestamp ∷ timestamps_on channel between) ≡ moved_on channel (between ++ first ∷ [])
  sum_between =
      let one : moved_on channel (first ∷ []) ≡ given.timestamp + 1 + 0 = moved_first channel first [] given.timestamp passed (ap timestamp_in there) in
      omega (arith, moved_one given.timestamp (timestamps_on channel between), moved_sum channel between, moved_append channel between (first ∷ []), one)

  sum_before : moved_on channel (between ++ first ∷ earlier) ≡ moved_on channel earlier + moved_by (given.timestamp ∷ timestamps_on channel between)
  sum_before =
      let one : moved_on channel (first ∷ earlier) ≡ given.timestamp + 1 + moved_on channel earlier = moved_first channel first earlier given.timestamp passed (ap timestamp_in there) in
      omega (arith, moved_one given.timestamp (timestamps_on channel between), moved_sum channel between, moved_append channel between (first ∷ earlier), one)

  passes_again : (key base : List ℕ) → IsBlock base → Passes key (add_to base (moved_on channel earlier)) given →
      Passes key (add_to base (moved_on channel (between ++ first ∷ earlier))) given ↔ (moved_on channel (between ++ first ∷ []) % 2 ^ 32 ≡ 0)
  passes_again key base block pass =
      let seed : List ℕ = add_to base (moved_on channel earlier) in
      let timestamps : List ℕ = timestamps_on channel between in
      let at : seed_after seed (given.timestamp ∷ timestamps) ≡ add_to base (moved_on channel (between ++ first ∷ earlier)) =
      seed_after-moved_by seed (given.timestamp ∷ timestamps) (IsBlock-add_to base (moved_on channel earlier) block)
      ∙ add_to-add_to base (moved_on channel earlier) (moved_by (given.timestamp ∷ timestamps))
      ∙ ap (λ (n : ℕ). add_to base n) (sym sum_before) in
      let law : Passes key (seed_after seed (given.timestamp ∷ timestamps)) given ↔ (moved_by (given.timestamp ∷ timestamps) % 2 ^ 32 ≡ 0) =
      replay key seed given timestamps (IsBlock-add_to base (moved_on channel earlier) block) pass in (
        λ again. subst (λ (n : ℕ). n % 2 ^ 32 ≡ 0) sum_between (law.0 (subst (λ (s : List ℕ). Passes key s given) (sym at) again)),
        λ whole. subst (λ (s : List ℕ). Passes key s given) at (law.1 (subst (λ (n : ℕ). n % 2 ^ 32 ≡ 0) (sym sum_between) whole)),
      )

by_sum : (channel : ChannelIdentity) (between earlier : List Judging) (second first : Judging) → AreMoved (second ∷ (between ++ first ∷ earlier)) → AreRight (second ∷ (between ++ first ∷ earlier)) →
    passed_on channel first ≡ true → is_channel (channel_in second.controller (computer_named second.asked) second.checks) channel ≡ true → given_in second.asked ≡ given_in first.asked →
    (has_passed second.how ≡ true) ↔ (moved_on channel (between ++ first ∷ []) % 2 ^ 32 ≡ 0)
by_sum channel between earlier second first moved right passed same again =
    let was = on_if (has_passed first.how) first channel passed in
    let is : IsOn second channel = on_by (channel_in second.controller (computer_named second.asked) second.checks) second channel refl same in
    let next : IsNextOn first.checks (given_in first.asked) = (later_right between first earlier right.1).0.right.passed.0 was.0 in
    let given : Authenticator = next.given in
    let base : List ℕ = cred_of (channel_key channel) channel.client in
    let pass : Passes (channel_key channel) (add_to base (moved_on channel earlier)) given =
    next_passes first channel was.1 (add_to base (moved_on channel earlier)) given (seed_is first channel was.1 earlier (later_moved between first earlier moved.1)) next.there next in
    let law = passes_again channel between earlier first given passed next.there (channel_key channel) base (IsBlock-cred_of (channel_key channel) channel.client) pass in
    let seed : is.state.seed ≡ add_to base (moved_on channel (between ++ first ∷ earlier)) = seed_is second channel is (between ++ first ∷ earlier) moved in (
      λ told. law.0 (next_passes second channel is _ given seed (again ∙ next.there) (right.0.right.passed.0 told)),
      λ whole. right.0.right.passed.1 (passes_next second channel is _ given seed (again ∙ next.there) (law.1 whole)),
    )

-- in every run a replay passes by the sum of timestamps
pub replays_by_sum : (plan : Plan) (moves : List Move) → IsPlainPlan plan → ReplaysBySum (past plan moves)
replays_by_sum plan moves nothing channel later between earlier second first all passed same again =
    by_sum channel between earlier second first
    (later_moved later second (between ++ first ∷ earlier) (subst (λ (judgings : List Judging). AreMoved judgings) all (seeds_follow plan moves nothing)))
    (later_right later second (between ++ first ∷ earlier) (subst (λ (judgings : List Judging). AreRight judgings) all (judged_rightly plan moves)))
    passed same again
