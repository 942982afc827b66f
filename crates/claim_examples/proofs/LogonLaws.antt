-- Logons that were written down by hand that meet a claim, and some that don't.
-- It serves `claims_tell_apart`, `grants_tell_apart`, `own_challenges_tell_apart`, `replies_tell_apart`.
use Rattle.std.proofs.Common.{◌≡◌, ◌≢◌, ℕ, zero, suc, true, false, List, [], ◌∷◌, length, inl, inr, Some, None, refl, sym, ap, ◌∙◌, subst, arith, slice_get, ◌<◌}
use Rattle.std.specs.Prelude.{◌≤◌, replicate, ◌==◌}
use Rattle.std.proofs.lemmas.List.Elements.{All-replicate}
use Rattle.wire_base.specs.Names.{same_name}
use Rattle.wire_base.specs.Names as names
use Rattle.wire_base.specs.Units.{units_of}
use Rattle.ntlm_flags.specs.Flags.{negotiate_unicode}
use Rattle.ntlm_responses.specs.Responses.{challenge_for_of, hashed_challenge_of, is_ess_pair, response_v1_of}
use Rattle.ntlm_responses.proofs.ResponseLaws.{challenge_for_of-ess, length-base_key_of, length-response_ess_of, length-response_v1_of, response_v1_of-one_to_one}
use Rattle.account_table.specs.LookUps.{place_in}
use Rattle.outside.specs.declared.action.Outcome.TheVariants as outcome
use Rattle.wire_base.specs.Lists.{OneOf}
use Rattle.step_notes.specs.Judged.{stored_hash}
use Rattle.step_notes.specs.Records.{ChallengeSent, Judging, MessageTaken, OutcomeTold}
use Rattle.world_moves.specs.Counting.{is_in}
use Rattle.world_moves.specs.declared.links.EndId.TheVariants.{Controller, Member}
use Rattle.world_moves.specs.declared.links.Route.TheVariants.{ToMember}
use Rattle.world_moves.specs.Links.{acceptor_of}
use Rattle.domain_world.specs.Claims.{IsAccepted, IsGrantedBy, IsItsControllersAnswer, IsLetInShortly, IsLinkOf, IsPlainlyAccepted, IsUnusedChallenge, TravelsAsZeros, info_asked, taken_answer}
use Rattle.domain_world.specs.Past.{Past, past}
use Rattle.claim_examples.specs.ClaimExamples.{OfAcceptingAll, OfAcceptingOnly, OfChallenges, OfKeys, OfShortResponses, answered_by, by_accounts, challenge_on, drawn_twice, elsewhere, extended_flags, extended_message, judging, long_message, message, message_of_link, on_channel, one_logon, other_judging, other_member_accepts, passed_twice, run_in, small_account, small_challenge, small_hash, small_links, small_run, taken_as, told_of_link, two_as, two_hashes, two_logons, with_response, world_of}
use Rattle.claim_examples.proofs.SequenceLaws.{one_apart}

pub only_draw : (challenge : List ℕ) (other : ℕ) → slice_get (challenge ∷ []) other ≡ Some challenge → other ≡ 0
only_draw challenge zero is = refl
only_draw challenge (suc other) is = absurd cc

pub stored_small : stored_hash judging (info_asked message) ≡ small_hash
unfolding place_in same_name names.upper_of units_of
stored_small = refl

pub granted_small : IsGrantedBy message judging
unfolding place_in same_name names.upper_of units_of is_ess_pair
granted_small = record {
  may = record {
    there = record {
      domain = inl refl;
      account = record {
        user = refl;
        unlocked = refl;
        below_lockout = inl refl;
        enabled = refl;
        not_expired = inl refl;
        workstation = inl refl;
        no_change_due = refl;
        password_not_expired = inl refl;
      };
    };
    taken_response = inl refl;
  };
  verifies = inl (length-response_v1_of small_hash small_challenge, refl);
}

abbrev pub accepted_small : IsAccepted (small_run one_logon) message
accepted_small = record {
  own = record { route = ToMember 0 0; at = refl; acceptor = refl };
  judging = judging;
  answer = record { taken = refl; controller = refl; once = (λ same. refl, tt) };
  granted = granted_small;
  unused = inl (record { link = refl; challenge = refl; drawn = refl; only = only_draw small_challenge; first = refl });
}

abbrev pub accepted_first : IsAccepted (small_run two_logons) message
accepted_first = record {
  own = record { route = ToMember 0 0; at = refl; acceptor = refl };
  judging = judging;
  answer = record { taken = refl; controller = refl; once = (λ same. refl, tt) };
  granted = granted_small;
  unused = inl (record { link = refl; challenge = refl; drawn = refl; only = only_draw small_challenge; first = refl });
}

abbrev pub accepted_second : IsAccepted (small_run two_logons) (message_of_link 4)
accepted_second = record {
  own = record { route = ToMember 0 0; at = refl; acceptor = refl };
  judging = judging;
  answer = record { taken = refl; controller = refl; once = (λ same. refl, tt) };
  granted = record { may = granted_small.may; verifies = granted_small.verifies };
  unused = inr (inl (record { link = refl; challenge = refl; drawn = refl; only = only_draw small_challenge; first = refl }));
}

-- the step that gave the answer is this one
pub this_step : (j other : Judging) → Some j ≡ Some other → j ≡ other
this_step j other is = cc

-- ---- accepting only what is granted

not_elsewhere : IsItsControllersAnswer (answered_by (elsewhere judging)) message (elsewhere judging) → ⊥
not_elsewhere answer = absurd (let never : Some (Controller 0) ≡ Some (Controller 1) = answer.controller in cc)

not_twice : IsItsControllersAnswer passed_twice message judging → ⊥
not_twice answer = absurd (let never : 7 ≡ 6 = answer.once.0 refl in cc)

not_disabled : IsGrantedBy message (by_accounts (record small_account { disabled = true } ∷ [])) → ⊥
unfolding place_in same_name names.upper_of units_of
not_disabled granted = absurd (let never : true ≡ false = granted.may.there.account.enabled in cc)

not_unknown : IsGrantedBy message (by_accounts []) → ⊥
unfolding place_in
not_unknown granted = granted.may.there.account

-- the response to another challenge is another one
pub not_response : IsGrantedBy (with_response (response_v1_of small_hash (replicate 8 8))) judging → ⊥
unfolding place_in same_name names.upper_of units_of is_ess_pair
not_response granted = elim granted.verifies [
  | inl short ↦ absurd (let never : replicate 8 8 ≡ replicate 8 9 = response_v1_of-one_to_one small_hash (replicate 8 8) small_challenge (record { eight = refl; bytes = All-replicate (λ (b : ℕ). b < 256) 8 8 (omega arith) }) (record { eight = refl; bytes = All-replicate (λ (b : ℕ). b < 256) 8 9 (omega arith) }) short.1 in cc)
  | inr long ↦ absurd (omega (arith, long.0, length-response_v1_of small_hash (replicate 8 8)))
]

pub not_long : IsGrantedBy (with_response (replicate 25 0)) judging → ⊥
unfolding place_in same_name names.upper_of units_of is_ess_pair
not_long granted = elim granted.verifies [
  | inl short ↦ absurd (let never : 25 ≡ 24 = short.0 in cc)
  | inr long ↦ absurd (let never : 44 ≤ 25 = long.0 in omega arith)
]

-- one challenge was sent
pub the_sent : (past : Past) (one : MessageTaken) (sent : ChallengeSent) → (IsUnusedChallenge past one sent → ⊥) → OneOf (IsUnusedChallenge past one) (sent ∷ []) → ⊥
the_sent past one sent none unused = elim unused [ inl is ↦ none is | inr nothing ↦ nothing ]

pub not_drawn_once : IsUnusedChallenge (run_in drawn_twice one_logon) message (challenge_on 3) → ⊥
not_drawn_once unused = absurd (let never : 1 ≡ 0 = unused.only 1 refl in cc)

pub not_drawn : IsUnusedChallenge (run_in (world_of small_links []) one_logon) message (challenge_on 3) → ⊥
not_drawn unused = absurd (let never : None ≡ Some small_challenge = unused.drawn in cc)

pub not_link : IsLinkOf (run_in other_member_accepts one_logon) 3 0 → ⊥
not_link own =
    let at : Some (ToMember 0 1) ≡ Some own.route = own.at in
    let route : ToMember 0 1 ≡ own.route = cc in
    absurd (let never : Member 1 ≡ Member 0 = ap acceptor_of route ∙ own.acceptor in cc)

pub of_accepting_only : OfAcceptingOnly
of_accepting_only = record {
  meets = (λ told. inl (refl, refl, accepted_small), tt);
  fails = λ claim. claim.0 refl;
  fails_barred = λ claim. elim (claim.0 refl) [ inl is ↦ absurd (let taken = is.2.answer.taken in cc) | inr none ↦ none ];
  fails_elsewhere = λ claim. elim (claim.0 refl) [ inl is ↦ absurd (let member : 0 ≡ 1 = is.1 in cc) | inr none ↦ none ];
  fails_controller = λ claim. elim (claim.0 refl) [
    | inl is ↦ not_elsewhere (subst (λ (j : Judging). IsItsControllersAnswer (answered_by (elsewhere judging)) message j) (sym (this_step (elsewhere judging) is.2.judging is.2.answer.taken)) is.2.answer)
    | inr none ↦ none
  ];
  fails_twice = λ claim. elim (claim.0 refl) [
    | inl is ↦ not_twice (subst (λ (j : Judging). IsItsControllersAnswer passed_twice message j) (sym (this_step judging is.2.judging is.2.answer.taken)) is.2.answer)
    | inr none ↦ none
  ];
  fails_disabled = λ claim. elim (claim.0 refl) [
    | inl is ↦ not_disabled (subst (λ (j : Judging). IsGrantedBy message j) (sym (this_step (by_accounts (record small_account { disabled = true } ∷ [])) is.2.judging is.2.answer.taken)) is.2.granted)
    | inr none ↦ none
  ];
  fails_unknown = λ claim. elim (claim.0 refl) [
    | inl is ↦ not_unknown (subst (λ (j : Judging). IsGrantedBy message j) (sym (this_step (by_accounts []) is.2.judging is.2.answer.taken)) is.2.granted)
    | inr none ↦ none
  ];
  fails_response = λ claim. elim (claim.0 refl) [
    | inl is ↦ not_response (subst (λ (j : Judging). IsGrantedBy (with_response (response_v1_of small_hash (replicate 8 8))) j) (sym (this_step judging is.2.judging is.2.answer.taken)) is.2.granted)
    | inr none ↦ none
  ];
  fails_long = λ claim. elim (claim.0 refl) [
    | inl is ↦ not_long (subst (λ (j : Judging). IsGrantedBy (with_response (replicate 25 0)) j) (sym (this_step judging is.2.judging is.2.answer.taken)) is.2.granted)
    | inr none ↦ none
  ];
  fails_draws = λ claim. elim (claim.0 refl) [ inl is ↦ the_sent _ _ (challenge_on 3) not_drawn_once is.2.unused | inr none ↦ none ];
  fails_undrawn = λ claim. elim (claim.0 refl) [ inl is ↦ the_sent _ _ (challenge_on 3) not_drawn is.2.unused | inr none ↦ none ];
  fails_unsent = λ claim. elim (claim.0 refl) [
    | inl is ↦ the_sent _ _ (challenge_on 4) (λ unused. absurd (let never : 4 ≡ 3 = unused.link in cc)) is.2.unused
    | inr none ↦ none
  ];
  fails_taken = λ claim. elim (claim.0 refl) [
    | inl is ↦ the_sent _ _ (challenge_on 3) (λ unused. absurd (let never : 2 ≡ 1 = unused.first in cc)) is.2.unused
    | inr none ↦ none
  ];
  fails_link = λ claim. elim (claim.0 refl) [ inl is ↦ not_link is.2.own | inr none ↦ none ];
}

-- ---- accepting all that is granted, and keys

pub of_accepting_all : OfAcceptingAll
of_accepting_all = record {
  meets = (λ j answer granted. inl (refl, refl, refl), tt);
  fails = λ claim. claim.0 judging (record { taken = refl; controller = refl; once = (λ same. refl, tt) }) granted_small;
  fails_elsewhere = λ claim. elim (claim.0 judging (record { taken = refl; controller = refl; once = (λ same. refl, tt) }) granted_small) [ inl is ↦ absurd (let link : 4 ≡ 3 = is.0 in cc) | inr none ↦ none ];
  fails_out = λ claim. elim (claim.0 judging (record { taken = refl; controller = refl; once = (λ same. refl, tt) }) granted_small) [ inl is ↦ absurd (let never : false ≡ true = is.2 in cc) | inr none ↦ none ];
  barred = (λ j answer granted. absurd (let never : None ≡ Some j = answer.taken in cc), tt);
  disabled = (λ j answer granted. absurd (not_disabled (subst (λ (one : Judging). IsGrantedBy message one) (sym (this_step (by_accounts (record small_account { disabled = true } ∷ [])) j answer.taken)) granted)), tt);
}

-- no channel is kept, and a base key isn't empty
pub free_small : TravelsAsZeros judging (info_asked message) → ⊥
free_small is = absurd (let none : 16 ≡ 0 = sym (length-base_key_of (stored_hash judging (info_asked message)) _ _ _) ∙ ap length is in cc)

pub of_keys : OfKeys
of_keys = record {
  meets = ((λ link j taken free. ((λ made. refl, tt), tt), tt), tt);
  fails = λ claim.
      absurd (let same : 1 ∷ [] ≡ 2 ∷ [] = ((claim.0.0 refl judging refl free_small).0.0 (record { link = refl; challenge = refl; bytes = refl; hash = sym stored_small })) in cc);
  other_message = ((λ link j taken free. ((λ made. absurd (let never : 1 ∷ [] ≡ [] = made.bytes in cc), tt), tt), tt), tt);
  other_challenge = ((λ link j taken free. ((λ made. absurd (let never : 1 ∷ [] ≡ [] = made.challenge in cc), tt), tt), tt), tt);
  other_hash = ((λ link j taken free. ((λ made. absurd (let never : [] ≡ small_hash = made.hash ∙ ap (λ (one : Judging). stored_hash one (info_asked message)) (sym (this_step judging j taken)) ∙ stored_small in cc), tt), tt), tt), tt);
  zeros = λ zeros. ((λ link j taken free. absurd (free (subst (λ (one : Judging). TravelsAsZeros one (info_asked message)) (this_step (on_channel 0) j taken) zeros)), tt), tt);
}

-- ---- short responses

pub plain_small : (link : ℕ) → challenge_for_of (message_of_link link).logon.agreed small_challenge [] (message_of_link link).logon.message.nt ≡ small_challenge
unfolding is_ess_pair
plain_small link = refl

-- two hashes are stored
stored_other : stored_hash other_judging (info_asked message) ≡ replicate 16 8
unfolding place_in same_name names.upper_of units_of
stored_other = refl

hashes_apart : (hash : List ℕ) → IsPlainlyAccepted (small_run two_hashes) message hash → IsPlainlyAccepted (small_run two_hashes) (record (message_of_link 4) { call = Some 17; reply = Some 18 }) hash → ⊥
hashes_apart hash one other =
    let first : judging ≡ one.accepted.judging = this_step judging one.accepted.judging one.accepted.answer.taken in
    let second : other_judging ≡ other.accepted.judging = this_step other_judging other.accepted.judging other.accepted.answer.taken in
    let mine : small_hash ≡ hash = sym stored_small ∙ ap (λ (j : Judging). stored_hash j (info_asked message)) first ∙ one.stored in
    let its : replicate 16 8 ≡ hash = sym stored_other ∙ ap (λ (j : Judging). stored_hash j (info_asked message)) second ∙ other.stored in
    absurd (let never : small_hash ≡ replicate 16 8 = mine ∙ sym its in cc)

-- a response of 25 bytes is none of 24
not_short : (hash : List ℕ) (link : ℕ) → IsPlainlyAccepted (small_run (two_as long_message negotiate_unicode)) (taken_as long_message negotiate_unicode (message_of_link link)) hash → ⊥
not_short hash link one = absurd (let never : 25 ≡ 24 = one.short in cc)

-- a response of extended session security answers a hashed challenge
pub extended_pair : is_ess_pair extended_flags extended_message.lm extended_message.nt ≡ true
unfolding is_ess_pair
extended_pair = ap (λ (n : ℕ). n == 24) (length-response_ess_of small_hash small_challenge (replicate 8 1))

not_own : (hash : List ℕ) (link : ℕ) → hashed_challenge_of small_challenge (replicate 8 1) ≢ small_challenge →
    IsPlainlyAccepted (small_run (two_as extended_message extended_flags)) (taken_as extended_message extended_flags (message_of_link link)) hash → ⊥
not_own hash link hashed one = hashed (sym (challenge_for_of-ess extended_flags small_challenge extended_message.lm extended_message.nt extended_pair) ∙ one.own)

-- NTLMv1's response to the link's challenge lets in on that link
short_of : (past : Past) (told : OutcomeTold) (link : ℕ) → is_in told.outcome ≡ true → link ≡ told.link → taken_answer (message_of_link link) past.book.judged ≡ Some judging →
    IsLetInShortly past told (response_v1_of small_hash small_challenge) small_hash (message_of_link link)
short_of past told link let_in is answer = record {
  let_in = let_in;
  link = is;
  response = refl;
  short = length-response_v1_of small_hash small_challenge;
  own = plain_small link;
  judging = judging;
  answer = answer;
  stored = stored_small;
}

never_in : (past : Past) (told : OutcomeTold) (nt hash : List ℕ) (messages : List MessageTaken) → is_in told.outcome ≡ false → OneOf (IsLetInShortly past told nt hash) messages → ⊥
never_in past told nt hash [] out one = one
never_in past told nt hash (first ∷ messages) out one = elim one [
  | inl here ↦ absurd (let never : false ≡ true = sym out ∙ here.let_in in cc)
  | inr later ↦ never_in past told nt hash messages out later
]

-- one is let in, and the other refused
abbrev one_refused : Past
one_refused = small_run (record two_logons { told = told_of_link 3 ∷ record (told_of_link 4) { outcome = outcome.Out 5 } ∷ [] })

none_refused : (nt hash : List ℕ) → OneOf (IsLetInShortly one_refused (record (told_of_link 4) { outcome = outcome.Out 5 }) nt hash) one_refused.book.messages → ⊥
none_refused nt hash = never_in one_refused (record (told_of_link 4) { outcome = outcome.Out 5 }) nt hash one_refused.book.messages refl

pub of_short_responses : OfShortResponses
of_short_responses = record {
  accepted = record {
    accepted = accepted_small;
    told = inl (refl, refl, refl);
    short = length-response_v1_of small_hash small_challenge;
    own = plain_small 3;
    stored = stored_small;
  };
  meets = λ hash. ((λ apart same one other. apart refl, tt), tt);
  fails = λ claim. (claim small_hash).0.1.0 (λ same. absurd (let never : 3 ≡ 4 = same in cc)) refl
      (record {
        accepted = accepted_first;
        told = inl (refl, refl, refl);
        short = length-response_v1_of small_hash small_challenge;
        own = plain_small 3;
        stored = stored_small;
      })
      (record {
        accepted = accepted_second;
        told = inr (inl (refl, refl, refl));
        short = length-response_v1_of small_hash small_challenge;
        own = plain_small 4;
        stored = stored_small;
      });
  other_hash = λ hash. (
    (λ apart same one other. apart refl, (λ apart same one other. hashes_apart hash one other, tt)),
    ((λ apart same one other. hashes_apart hash other one, (λ apart same one other. apart refl, tt)), tt),
  );
  long = λ hash. (
    (λ apart same one other. not_short hash 3 one, (λ apart same one other. not_short hash 3 one, tt)),
    ((λ apart same one other. not_short hash 4 one, (λ apart same one other. not_short hash 4 one, tt)), tt),
  );
  extended = λ hashed hash. (
    (λ apart same one other. not_own hash 3 hashed one, (λ apart same one other. not_own hash 3 hashed one, tt)),
    ((λ apart same one other. not_own hash 4 hashed one, (λ apart same one other. not_own hash 4 hashed one, tt)), tt),
  );
  lets_in = short_of (small_run one_logon) (told_of_link 3) 3 refl refl refl;
  meets_once = λ nt hash. ((λ apart one other. apart refl, tt), tt);
  fails_once = λ claim. (claim (response_v1_of small_hash small_challenge) small_hash).0.1.0 (λ same. absurd (let never : 3 ≡ 4 = same in cc))
      (inl (short_of (small_run two_logons) (told_of_link 3) 3 refl refl refl)) (inr (inl (short_of (small_run two_logons) (told_of_link 4) 4 refl refl refl)));
  refused = λ nt hash. (
    (λ apart one other. apart refl, (λ apart one other. none_refused nt hash other, tt)),
    ((λ apart one other. none_refused nt hash one, (λ apart one other. apart refl, tt)), tt),
  );
}

-- ---- challenges

pub of_challenges : OfChallenges
of_challenges = record {
  meets = record { draws = one_apart (λ one other. one ≢ other) small_challenge; messages = one_apart (λ one other. one ≢ other) 3 };
  fails = λ claim. claim.messages 0 1 0 (omega arith) (omega arith) refl;
  fails_draws = λ claim. claim.draws 0 1 [] (omega arith) (omega arith) refl;
}
