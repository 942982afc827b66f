-- Small runs that meet a claim, and some that don't.
-- It serves `claims_tell_apart`.
use Rattle.std.proofs.Common.{◌≡◌, ◌≢◌, ℕ, ◌+◌, Bool, true, false, List, [], ◌∷◌, ◌++◌, inl, inr, Option, Some, None, refl, sym, ap, subst, ◌∙◌, arith}
use Rattle.std.specs.Prelude.{◌%◌, ◌^◌, codes, ◌⊎◌}
use Rattle.end_links.specs.Serving.{ServedUnit}
use Rattle.wire_base.specs.Names.{same_name}
use Rattle.wire_base.specs.Names as names
use Rattle.authenticators.specs.Channels.{ChannelIdentity}
use Rattle.authenticators.specs.Sequences.{authenticator_of}
use Rattle.authenticators.specs.SecureChannels.{SecureChannelState, key_of_channel, channel_of}
use Rattle.authenticators.proofs.ChannelLaws.{same_channel-Decides}
use Rattle.outside.specs.declared.action.Judged.{Judged}
use Rattle.outside.specs.declared.action.Judged.TheVariants as judged
use Rattle.member_server.specs.Turns.{AtTurn}
use Rattle.channel_turns.specs.declared.state.TurnTalk.{TurnTalk}
use Rattle.channel_events.specs.Marks.{Calling, ReplyTo}
use Rattle.step_notes.specs.ControllerNotes.{identity_by, channel_in, has_passed}
use Rattle.step_notes.specs.Judged.{IsJudgedRight, IsNextOn, IsOfName, IsRightOf, channel_if}
use Rattle.step_notes.specs.Marking.{clashes, is_channel}
use Rattle.step_notes.specs.Records.{Judging, computer_named, given_in, timestamp_in}
use Rattle.world_moves.specs.declared.links.Route.TheVariants.{ToMember}
use Rattle.world_moves.specs.declared.plan.Plan.{Plan}
use Rattle.domain_world.specs.Claims.{IsAccepted, PassesTheNextCredential, Wraps, moved_if, moved_on, passed_on, judged_timestamp}
use Rattle.domain_world.specs.Headline.{IsClaimed}
use Rattle.domain_world.proofs.HeadlineLaws.{all_proved}
use Rattle.claim_examples.specs.ClaimExamples.{OfAll, OfClashes, OfCredentials, OfReplays, OfTakenAnswers, OfWraps, asked_in, elsewhere, judged_as, judged_once, last_timestamp, message, next_call, on_channel, passed_in, second_timestamp, seed_after_one, small_account, small_challenge, small_channel, small_name, small_seed, taken_in, third_timestamp, told_as, whole_book, whole_call, whole_run}
use Rattle.claim_examples.specs.TellApart.{ClaimsTellApart}
use Rattle.step_notes.proofs.Controllers.JudgedStepLaws.{next_unbarred, right_passed}
use Rattle.claim_examples.proofs.CompletenessLaws.{of_completeness, of_own_members, of_success}
use Rattle.claim_examples.proofs.LetInExampleLaws.{found_small}
use Rattle.claim_examples.proofs.LogonLaws.{granted_small, of_accepting_all, of_accepting_only, of_challenges, of_keys, of_short_responses, only_draw}
use Rattle.claim_examples.proofs.SequenceLaws.{of_sequences, one_apart, one_stamp, shares_by}

-- ---- parts of short lists

not_empty : (later : List Judging) (second : Judging) (rest : List Judging) → [] ≡ later ++ second ∷ rest → ⊥
not_empty [] second rest is = absurd cc
not_empty (j ∷ later) second rest is = absurd cc

not_one : (j : Judging) (later : List Judging) (second : Judging) (between : List Judging) (first : Judging) (earlier : List Judging) → j ∷ [] ≡ later ++ second ∷ (between ++ first ∷ earlier) → ⊥
not_one j [] second between first earlier is = not_empty between first earlier (let rest : [] ≡ between ++ first ∷ earlier = cc in rest)
not_one j (one ∷ later) second between first earlier is =
    not_empty later second (between ++ first ∷ earlier) (let rest : [] ≡ later ++ second ∷ (between ++ first ∷ earlier) = cc in rest)

the_last : (b : Judging) (between : List Judging) (first : Judging) (earlier : List Judging) → b ∷ [] ≡ between ++ first ∷ earlier → (between ≡ []) × (first ≡ b)
the_last b [] first earlier is = (refl, cc)
the_last b (one ∷ between) first earlier is = absurd (not_empty between first earlier (let rest : [] ≡ between ++ first ∷ earlier = cc in rest))

pub the_two : (a b : Judging) (later : List Judging) (second : Judging) (between : List Judging) (first : Judging) (earlier : List Judging) →
    a ∷ b ∷ [] ≡ later ++ second ∷ (between ++ first ∷ earlier) → (second ≡ a) × (between ≡ []) × (first ≡ b)
the_two a b [] second between first earlier is =
    let rest : b ∷ [] ≡ between ++ first ∷ earlier = cc in
    let last = the_last b between first earlier rest in (cc, last.0, last.1)
the_two a b (one ∷ later) second between first earlier is =
    absurd (not_one b later second between first earlier (let rest : b ∷ [] ≡ later ++ second ∷ (between ++ first ∷ earlier) = cc in rest))

-- the places of two of three
the_either : (b c : Judging) (between : List Judging) (first : Judging) (earlier : List Judging) → b ∷ c ∷ [] ≡ between ++ first ∷ earlier → ((between ≡ []) × (first ≡ b)) ⊎ ((between ≡ b ∷ []) × (first ≡ c))
the_either b c [] first earlier is = inl (refl, cc)
the_either b c (one ∷ between) first earlier is =
    let rest : c ∷ [] ≡ between ++ first ∷ earlier = cc in
    let same : one ≡ b = cc in
    let last = the_last c between first earlier rest in
    inr (ap (λ (x : Judging). x ∷ between) same ∙ ap (λ (x : List Judging). b ∷ x) last.0, last.1)

-- of three: the first two, the outer two, or the last two
the_three : (a b c : Judging) (later : List Judging) (second : Judging) (between : List Judging) (first : Judging) (earlier : List Judging) →
    a ∷ b ∷ c ∷ [] ≡ later ++ second ∷ (between ++ first ∷ earlier) →
    ((second ≡ a) × (((between ≡ []) × (first ≡ b)) ⊎ ((between ≡ b ∷ []) × (first ≡ c)))) ⊎ ((second ≡ b) × (between ≡ []) × (first ≡ c))
the_three a b c [] second between first earlier is =
    let rest : b ∷ c ∷ [] ≡ between ++ first ∷ earlier = cc in
    inl (cc, the_either b c between first earlier rest)
the_three a b c (one ∷ later) second between first earlier is =
    inr (the_two b c later second between first earlier (let rest : b ∷ c ∷ [] ≡ later ++ second ∷ (between ++ first ∷ earlier) = cc in rest))

-- a call that passed alone moved the seed by its timestamp and one
pub moved_by_one : (channel : ChannelIdentity) (between : List Judging) (first j : Judging) → between ≡ [] → first ≡ j → passed_on channel first ≡ true → moved_on channel (between ++ first ∷ []) ≡ judged_timestamp j + 1 + 0
moved_by_one channel between first j none is passed =
    ap (λ (all : List Judging). moved_on channel (all ++ first ∷ [])) none
    ∙ ap (λ (one : Judging). moved_on channel (one ∷ [])) is
    ∙ ap (λ (here : Bool). moved_if here (judged_timestamp j) 0) (sym (ap (λ (one : Judging). passed_on channel one) is) ∙ passed)

-- with one call between
moved_by_two : (channel : ChannelIdentity) (between : List Judging) (first b f : Judging) → between ≡ b ∷ [] → first ≡ f → passed_on channel b ≡ true → passed_on channel f ≡ true →
    moved_on channel (between ++ first ∷ []) ≡ judged_timestamp b + 1 + (judged_timestamp f + 1 + 0)
moved_by_two channel between first b f is same passed also =
    ap (λ (all : List Judging). moved_on channel (all ++ first ∷ [])) is
    ∙ ap (λ (one : Judging). moved_on channel (b ∷ one ∷ [])) same
    ∙ ap (λ (here : Bool). moved_if here (judged_timestamp b) (moved_if (passed_on channel f) (judged_timestamp f) 0)) passed
    ∙ ap (λ (here : Bool). judged_timestamp b + 1 + moved_if here (judged_timestamp f) 0) also

-- ---- seeds that come round, and replays

passed_small : (timestamp : ℕ) → passed_on small_name (on_channel timestamp) ≡ true
unfolding same_name names.upper_of
passed_small timestamp = refl

comes_small : is_channel (channel_in 0 (Some (codes "FILE1")) (Some (small_channel []))) small_name ≡ true
unfolding same_name names.upper_of
comes_small = refl

round_small : moved_on small_name (on_channel last_timestamp ∷ []) % 2 ^ 32 ≡ 0
round_small = ap (λ (n : ℕ). n % 2 ^ 32) (moved_by_one small_name [] (on_channel last_timestamp) (on_channel last_timestamp) refl refl (passed_small last_timestamp))

round_over : moved_on small_name (on_channel second_timestamp ∷ on_channel 0 ∷ []) % 2 ^ 32 ≡ 0
round_over =
    ap (λ (n : ℕ). n % 2 ^ 32) (moved_by_two small_name (on_channel second_timestamp ∷ []) (on_channel 0) (on_channel second_timestamp) (on_channel 0) refl refl (passed_small second_timestamp) (passed_small 0))

round_later : moved_on small_name (on_channel 0 ∷ on_channel third_timestamp ∷ on_channel 0 ∷ []) % 2 ^ 32 ≡ 0
round_later =
    ap (λ (n : ℕ). n % 2 ^ 32) (ap (λ (here : Bool). moved_if here 0 (moved_on small_name (on_channel third_timestamp ∷ on_channel 0 ∷ []))) (passed_small 0)
    ∙ ap (λ (n : ℕ). 0 + 1 + n) (moved_by_two small_name (on_channel third_timestamp ∷ []) (on_channel 0) (on_channel third_timestamp) (on_channel 0) refl refl (passed_small third_timestamp) (passed_small 0)))

-- a timestamp of 0 moved the seed by 1
not_round : (channel : ChannelIdentity) (between : List Judging) (first : Judging) → between ≡ [] → first ≡ on_channel 0 → passed_on channel first ≡ true → moved_on channel (between ++ first ∷ []) % 2 ^ 32 ≡ 0 → ⊥
not_round channel between first none is passed around =
    let one : moved_on channel (between ++ first ∷ []) ≡ 1 = moved_by_one channel between first (on_channel 0) none is passed in
    absurd (omega (arith, one, around))

wraps_not : Wraps (on_channel 0 ∷ on_channel 0 ∷ []) → ⊥
wraps_not wraps =
    let parts = the_two (on_channel 0) (on_channel 0) wraps.later wraps.second wraps.between wraps.first wraps.earlier wraps.all in
    not_round wraps.channel wraps.between wraps.first parts.1 parts.2 wraps.first_passed wraps.around

-- a call that passed on a channel passed at its controller
of_state : (controller : ℕ) (computer : List ℕ) (found : Option SecureChannelState) (channel : ChannelIdentity) → is_channel (identity_by controller computer found) channel ≡ true → controller ≡ channel.controller
of_state controller computer None channel is = absurd cc
of_state controller computer (Some c) channel is = ((same_channel-Decides (channel_of controller computer c) channel).0 is).controller

of_computer : (controller : ℕ) (computer : Option (List ℕ)) (checks : Option SecureChannelState) (channel : ChannelIdentity) → is_channel (channel_in controller computer checks) channel ≡ true → controller ≡ channel.controller
of_computer controller None checks channel is = absurd cc
of_computer controller (Some computer) checks channel is = of_state controller computer checks channel is

of_call : (passes : Bool) (j : Judging) (channel : ChannelIdentity) → is_channel (channel_if passes j) channel ≡ true → j.controller ≡ channel.controller
of_call false j channel is = absurd cc
of_call true j channel is = of_computer j.controller (computer_named j.asked) j.checks channel is

pub its_controller : (channel : ChannelIdentity) (j : Judging) → passed_on channel j ≡ true → j.controller ≡ channel.controller
its_controller channel j is = of_call (has_passed j.how) j channel is

wraps_apart : Wraps (elsewhere (on_channel last_timestamp) ∷ on_channel last_timestamp ∷ []) → ⊥
wraps_apart wraps =
    let parts = the_two (elsewhere (on_channel last_timestamp)) (on_channel last_timestamp) wraps.later wraps.second wraps.between wraps.first wraps.earlier wraps.all in
    let second : 1 ≡ wraps.channel.controller = sym (ap Judging.controller parts.0) ∙ its_controller wraps.channel wraps.second wraps.second_passed in
    let first : 0 ≡ wraps.channel.controller = sym (ap Judging.controller parts.2) ∙ its_controller wraps.channel wraps.first wraps.first_passed in
    absurd (let never : 1 ≡ 0 = second ∙ sym first in cc)

pub of_wraps : OfWraps
of_wraps = record {
  meets = record {
    channel = small_name;
    later = [];
    second = on_channel last_timestamp;
    between = [];
    first = on_channel last_timestamp;
    earlier = [];
    all = refl;
    first_passed = passed_small last_timestamp;
    second_passed = passed_small last_timestamp;
    around = round_small;
  };
  meets_later = record {
    channel = small_name;
    later = [];
    second = on_channel 0;
    between = on_channel 0 ∷ on_channel third_timestamp ∷ [];
    first = on_channel 0;
    earlier = [];
    all = refl;
    first_passed = passed_small 0;
    second_passed = passed_small 0;
    around = round_later;
  };
  fails = wraps_not;
  fails_apart = wraps_apart;
}

alike_small : (passed_in (Calling small_name 3 0)).clash ≡ false
unfolding same_name names.upper_of
alike_small = refl

other_small : (passed_in (Calling (record small_name { controller = 1 }) 3 0)).clash ≡ true
other_small = refl

taken_small : (served : ServedUnit AtTurn TurnTalk) → (taken_in (ReplyTo small_name 3 7) served).clash ≡ false
unfolding same_name names.upper_of
taken_small served = refl

asked_small : asked_in (ReplyTo small_name 3 7) ≡ false
unfolding same_name names.upper_of
asked_small = refl

of_clashes : OfClashes
of_clashes = record {
  alike = alike_small;
  outside = refl;
  none = refl;
  other = other_small;
  taken_alike = taken_small;
  taken_none = λ served. refl;
  taken_other = λ served. refl;
  asked_alike = asked_small;
  asked_none = refl;
  asked_other = refl;
  clear = record { apart = alike_small; onward = λ wraps. not_one _ wraps.later wraps.second wraps.between wraps.first wraps.earlier wraps.all };
  not_clear = λ clear. absurd (let apart : true ≡ false = clear.apart in cc);
}

of_answers : OfTakenAnswers
of_answers = record { meets = refl; other_link = refl; other_reply = refl; other_call = refl; barred = refl }

stamps_apart : (second first j other : Judging) → second ≡ j → first ≡ other → given_in second.asked ≡ given_in first.asked → judged_timestamp j ≡ judged_timestamp other
stamps_apart second first j other is also same = sym (ap judged_timestamp is) ∙ ap timestamp_in same ∙ ap judged_timestamp also

of_replays : OfReplays
of_replays = record {
  barred = λ channel later between earlier second first all passed comes same.
      let parts = the_two _ (on_channel 0) later second between first earlier all in (
        (λ again. absurd (let never : false ≡ true = sym (ap (λ (j : Judging). has_passed j.how) parts.0) ∙ again in cc)),
        (λ around. absurd (not_round channel between first parts.1 parts.2 passed around)),
      );
  passed = λ channel later between earlier second first all passed comes same.
      let parts = the_two (on_channel last_timestamp) (on_channel last_timestamp) later second between first earlier all in (
        (λ again. ap (λ (n : ℕ). n % 2 ^ 32) (moved_by_one channel between first (on_channel last_timestamp) parts.1 parts.2 passed)),
        (λ around. ap (λ (j : Judging). has_passed j.how) parts.0),
      );
  passed_over = λ channel later between earlier second first all passed comes same.
      elim (the_three (on_channel 0) (on_channel second_timestamp) (on_channel 0) later second between first earlier all) [
        | inl front ↦ elim front.1 [
          | inl near ↦ absurd (let never : 0 ≡ second_timestamp = stamps_apart second first (on_channel 0) (on_channel second_timestamp) front.0 near.1 same in cc)
          | inr far ↦
              let here : passed_on channel (on_channel 0) ≡ true = sym (ap (λ (j : Judging). passed_on channel j) far.1) ∙ passed in (
                (λ again. ap (λ (n : ℕ). n % 2 ^ 32) (moved_by_two channel between first (on_channel second_timestamp) (on_channel 0) far.0 far.1 here here)),
                (λ around. ap (λ (j : Judging). has_passed j.how) front.0),
              )
        ]
        | inr back ↦ absurd (let never : second_timestamp ≡ 0 = stamps_apart second first (on_channel second_timestamp) (on_channel 0) back.0 back.2 same in cc)
      ];
  fails = λ claim. not_round small_name [] (on_channel 0) refl refl (passed_small 0)
      ((claim small_name [] [] [] (on_channel 0) (on_channel 0) refl (passed_small 0) comes_small refl).0 refl);
  fails_over = λ claim.
      absurd (let never : false ≡ true = (claim small_name [] (on_channel second_timestamp ∷ []) [] (judged_as judged.Barred (on_channel 0)) (on_channel 0) refl (passed_small 0) comes_small refl).1 round_over in cc);
}

-- ---- credentials

pub no_channel : (channel : SecureChannelState) → None ≡ Some channel → ⊥
no_channel channel is = absurd cc

pub next_at : (seed : List ℕ) → IsNextOn (Some (small_channel seed)) (Some (authenticator_of (key_of_channel (small_channel seed)) seed 0))
next_at seed =
    record { channel = small_channel seed; given = authenticator_of (key_of_channel (small_channel seed)) seed 0; stands = refl; there = refl; passes = refl }

-- a call that has it, and names its computer, passes
pub passes_right : (j : Judging) → IsNextOn j.checks (given_in j.asked) → IsOfName (computer_named j.asked) j.checks → j.how ≡ Some (judged.Passed 0) → IsJudgedRight j
passes_right j next named how = record {
  right = subst (λ (told : Option Judged). IsRightOf told j.checks (given_in j.asked)) (sym how)
      (right_passed 0 j.checks (given_in j.asked) next (next_unbarred j.checks (given_in j.asked) next));
  named = named;
}

passed_next : PassesTheNextCredential (judged_once next_call (told_as (judged.Passed 0) ∷ []))
passed_next = (record { at = refl; controller = refl; how = refl; right = passes_right next_call (next_at []) tt refl }, tt)

handed_next : PassesTheNextCredential (judged_once (judged_as judged.Forwarded next_call) (told_as judged.Forwarded ∷ []))
handed_next = (
  record {
    at = refl;
    controller = refl;
    how = refl;
    right = record {
      right = record {
        passed = (λ is. next_at [], λ next. refl);
        barred = (λ is. absurd cc, λ barred. absurd (next_unbarred next_call.checks (given_in next_call.asked) (next_at []) barred));
        other = (λ is. absurd cc, λ both. absurd (both.0 (next_at [])));
      };
      named = tt;
    };
  },
  tt,
)

of_credentials : OfCredentials
of_credentials = record {
  meets = passed_next;
  no_channel = (
    record {
      at = refl;
      controller = refl;
      how = refl;
      right = record {
        right = record {
          passed = (λ is. absurd cc, λ next. absurd (no_channel next.channel next.stands));
          barred = (λ is. absurd cc, λ barred. absurd (no_channel barred.channel barred.stands));
          other = (λ is. (λ next. no_channel next.channel next.stands, λ barred. no_channel barred.channel barred.stands), λ both. refl);
        };
        named = tt;
      };
    },
    tt,
  );
  fails_barred = λ claim. absurd (let passed : false ≡ true = claim.0.right.right.passed.1 (next_at []) in cc);
  fails = λ claim. let next = claim.0.right.right.passed.0 refl in no_channel next.channel next.stands;
  fails_silent = λ claim. claim;
  answered = passed_next;
  fails_answered = λ claim. claim;
  handed_on = handed_next;
  fails_handed_on = λ claim. let next = claim.0.right.right.passed.0 refl in no_channel next.channel next.stands;
}

-- ---- all at once

call_alike : clashes (Some small_name) (Some 7) whole_book.sent ≡ false
unfolding same_name names.upper_of
call_alike = refl

reply_alike : clashes (Some small_name) (Some 8) whole_book.sent ≡ false
unfolding same_name names.upper_of
reply_alike = refl

accepted_whole : IsAccepted whole_run message
accepted_whole = record {
  own = record { route = ToMember 0 0; at = refl; acceptor = refl };
  judging = whole_call;
  answer = record { taken = refl; controller = refl; once = (λ same. refl, tt) };
  granted = record { may = granted_small.may; verifies = granted_small.verifies };
  unused = inl (record { link = refl; challenge = refl; drawn = refl; only = only_draw small_challenge; first = refl });
}

of_all : OfAll
of_all = record {
  call = call_alike;
  reply = reply_alike;
  clear = record { apart = refl; onward = λ wraps. not_one _ wraps.later wraps.second wraps.between wraps.first wraps.earlier wraps.all };
  accepted = accepted_whole;
  meets = record {
    challenges = record { draws = one_apart (λ one other. one ≢ other) small_challenge; messages = one_apart (λ one other. one ≢ other) 3 };
    credentials = (record { at = refl; controller = refl; how = refl; right = passes_right whole_call (next_at small_seed) tt refl }, tt);
    replays = λ channel later between earlier second first all. absurd (not_one _ later second between first earlier all);
    only = λ clear. (λ told. inl (refl, refl, accepted_whole), tt);
    all = λ clear. (λ j answer granted. inl (refl, refl, refl), tt);
    keys = λ clear. ((λ link j taken free. ((λ made. refl, tt), tt), tt), tt);
    sequences = λ clear. shares_by whole_book None seed_after_one seed_after_one (0 ∷ []) one_stamp refl (λ none. inl refl);
    responses = λ clear hash. ((λ apart same one other. apart refl, tt), tt);
    once = λ clear nt hash. ((λ apart one other. apart refl, tt), tt);
    names = (
      λ is. inl (record {
        link = refl;
        member = refl;
        named = inl (record { answer = refl; granted = refl; account = small_account; found = found_small; names = (refl, refl) });
      }),
      tt,
    );
  };
}

-- ---- all claims

-- all that is proved of runs
at_first : (plan : Plan) → IsClaimed plan []
at_first plan schedule = all_proved plan []

pub claims_tell_apart : ClaimsTellApart
claims_tell_apart = record {
  wraps = of_wraps;
  clashes = of_clashes;
  answers = of_answers;
  replays = of_replays;
  short_responses = of_short_responses;
  sequences = of_sequences;
  challenges = of_challenges;
  accepting_only = of_accepting_only;
  accepting_all = of_accepting_all;
  keys = of_keys;
  credentials = of_credentials;
  together = of_all;
  success = of_success;
  own_members = of_own_members;
  completeness = of_completeness;
  at_first = at_first;
}
