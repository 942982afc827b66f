-- A response of 24 bytes is accepted on one link alone: it answers one challenge under a hash, and no two links have
-- one. So it lets in on one link alone. It serves `runs_are_proved`, `Proved.responses` and `Proved.once`.
use Rattle.std.proofs.Common.{◌≡◌, ◌≢◌, true, slice_get, inl, inr, List, [], length, Option, Some, None, IsSomeAnd, sym, ap, ◌∙◌, subst, arith, ℕ}
use Rattle.std.proofs.lemmas.Option.{get_or_from_slice_get, slice_get_within}
use Rattle.std.specs.List.{AllByRecursion}
use Rattle.channel_keys.specs.Des.{IsBlock}
use Rattle.ntlm_responses.specs.Responses.{response_v1_of}
use Rattle.ntlm_responses.specs.Verification.{Verifies}
use Rattle.ntlm_responses.proofs.ResponseLaws.{response_v1_of-one_to_one}
use Rattle.logon_stubs.specs.declared.info.NetworkInfo.{NetworkInfo}
use Rattle.account_table.specs.LookUps.{account_in}
use Rattle.account_table.specs.declared.account.Account.{Account}
use Rattle.wire_base.specs.Lists.{OneOf}
use Rattle.step_notes.specs.Judged.{hash_in, stored_hash}
use Rattle.step_notes.specs.Records.{ChallengeSent, Judging, MessageTaken, OutcomeTold}
use Rattle.world_moves.specs.Counting.{is_in}
use Rattle.world_moves.specs.Draws.{DrawsAreBlocks}
use Rattle.domain_world.specs.Accepting.Answered.{MessagesAreApart}
use Rattle.domain_world.specs.Claims.{AcceptsOnlyGranted, IsAccepted, IsLetInShortly, IsPlainlyAccepted, IsToldIn, IsUnusedChallenge, ShortResponsesLetInOnce, ShortResponsesServeOnce, info_asked}
use Rattle.domain_world.specs.Claims.OwnChallenges.{MessagesHaveOwnChallenges}
use Rattle.domain_world.specs.Past.{Past}
use Rattle.wire_base.proofs.ListLaws.{some_is}
use Rattle.wire_base.proofs.ListPlaceLaws.{Placed, all_by_place, apart_same, one_at, placed}
use Rattle.domain_controller.proofs.TrustPlaceLaws.{got_all}

-- a response of 24 bytes that verifies is NTLMv1's to the challenge
verified : (found : Option Account) (info : NetworkInfo) (hash : List ℕ) → hash_in found ≡ hash → length info.nt ≡ 24 →
    IsSomeAnd found (λ (account : Account). Verifies account.hash info.user info.domain info.challenge info.nt) → info.nt ≡ response_v1_of hash info.challenge
verified None info hash is short verifies = absurd verifies
verified (Some account) info hash is short verifies = elim verifies [
  | inl plain ↦ plain.1 ∙ ap (λ (h : List ℕ). response_v1_of h info.challenge) is
  | inr long ↦ absurd (omega (arith, short, long.0))
]

module _ (past : Past) (own : MessagesHaveOwnChallenges past) (blocks : DrawsAreBlocks past.world) where
  answers_own : (message : MessageTaken) (hash : List ℕ) → IsPlainlyAccepted past message hash → message.logon.message.nt ≡ response_v1_of hash message.logon.challenge
  answers_own message hash plain =
      verified (account_in plain.accepted.judging.table.accounts (info_asked message).user) (info_asked message) hash plain.stored plain.short plain.accepted.granted.verifies
      ∙ ap (λ (challenge : List ℕ). response_v1_of hash challenge) plain.own

  block_of : (message : MessageTaken) (sent : ChallengeSent) → IsUnusedChallenge past message sent → IsBlock message.logon.challenge
  block_of message sent unused =
      let drawn : List (List ℕ) = past.world.state.chances.drawn in
      subst IsBlock (get_or_from_slice_get drawn sent.draw sent.challenge [] unused.drawn ∙ unused.challenge)
      (blocks sent.draw [] (slice_get_within drawn sent.draw sent.challenge unused.drawn))

  pub short_once : ShortResponsesServeOnce past
  short_once hash = all_by_place _ past.book.messages (λ k one here. all_by_place _ past.book.messages (λ l other there differ same first second.
      let at_one = placed (IsUnusedChallenge past one) past.book.challenges first.accepted.unused in
      let at_other = placed (IsUnusedChallenge past other) past.book.challenges second.accepted.unused in
      let challenge : one.logon.challenge ≡ other.logon.challenge =
      response_v1_of-one_to_one hash one.logon.challenge other.logon.challenge (block_of one at_one.item at_one.is) (block_of other at_other.item at_other.is)
      (sym (answers_own one hash first) ∙ same ∙ answers_own other hash second) in
      let sent : at_one.item ≡ at_other.item =
      apart_same (λ (s : ChallengeSent). s.challenge) past.book.challenges own.apart at_one.place at_other.place at_one.item at_other.item at_one.there at_other.there
      (at_one.is.challenge ∙ challenge ∙ sym at_other.is.challenge) in
      absurd (differ (sym at_one.is.link ∙ ap (λ (s : ChallengeSent). s.link) sent ∙ at_other.is.link))))

-- ---- who is let in

module _ (past : Past) (apart : MessagesAreApart past) (only : AcceptsOnlyGranted past) where
  -- the message of that link is accepted
  accepted_so : (k : ℕ) (told : OutcomeTold) (place : ℕ) (message : MessageTaken) → slice_get past.book.told k ≡ Some told → slice_get past.book.messages place ≡ Some message →
      is_in told.outcome ≡ true → message.link ≡ told.link → IsAccepted past message × OneOf (IsToldIn message) past.book.told
  accepted_so k told place message here there is link =
      let at : Placed (λ (m : MessageTaken). (m.link ≡ told.link) × (m.member ≡ told.member) × IsAccepted past m) past.book.messages =
      placed (λ (m : MessageTaken). (m.link ≡ told.link) × (m.member ≡ told.member) × IsAccepted past m) past.book.messages
      (got_all (λ (t : OutcomeTold). is_in t.outcome ≡ true → OneOf (λ (m : MessageTaken). (m.link ≡ t.link) × (m.member ≡ t.member) × IsAccepted past m) past.book.messages) past.book.told k told
      only here is) in
      let same : at.item ≡ message =
      apart_same (λ (m : MessageTaken). m.link) past.book.messages apart at.place place at.item message at.there there (at.is.0 ∙ sym link) in
      let of : (message.link ≡ told.link) × (message.member ≡ told.member) × IsAccepted past message =
      subst (λ (m : MessageTaken). (m.link ≡ told.link) × (m.member ≡ told.member) × IsAccepted past m) same at.is in
      (of.2, one_at (IsToldIn message) past.book.told k told here (sym of.0, sym of.1, is))

  plainly : (k : ℕ) (told : OutcomeTold) (nt hash : List ℕ) (place : ℕ) (message : MessageTaken) → slice_get past.book.told k ≡ Some told → slice_get past.book.messages place ≡ Some message →
      IsLetInShortly past told nt hash message → IsPlainlyAccepted past message hash
  plainly k told nt hash place message here there let_in =
      let both : IsAccepted past message × OneOf (IsToldIn message) past.book.told = accepted_so k told place message here there let_in.let_in let_in.link in
      let same : both.0.judging ≡ let_in.judging = some_is both.0.judging let_in.judging (sym both.0.answer.taken ∙ let_in.answer) in
      record {
        accepted = both.0;
        told = both.1;
        short = ap length let_in.response ∙ let_in.short;
        own = let_in.own;
        stored = ap (λ (j : Judging). stored_hash j (info_asked message)) same ∙ let_in.stored;
      }

  pub short_let_in : ShortResponsesServeOnce past → ShortResponsesLetInOnce past
  short_let_in responses nt hash =
      all_by_place _ past.book.told (λ k one here. all_by_place _ past.book.told (λ l other also differ first second.
      let at_one : Placed (IsLetInShortly past one nt hash) past.book.messages = placed (IsLetInShortly past one nt hash) past.book.messages first in
      let at_other : Placed (IsLetInShortly past other nt hash) past.book.messages = placed (IsLetInShortly past other nt hash) past.book.messages second in
      let links : at_one.item.link ≢ at_other.item.link = λ same. differ (sym at_one.is.link ∙ same ∙ at_other.is.link) in
      got_all (λ (m : MessageTaken). at_one.item.link ≢ m.link → at_one.item.logon.message.nt ≡ m.logon.message.nt → IsPlainlyAccepted past at_one.item hash → IsPlainlyAccepted past m hash → ⊥)
      past.book.messages at_other.place at_other.item
      (got_all (λ (n : MessageTaken). AllByRecursion (λ (m : MessageTaken). n.link ≢ m.link → n.logon.message.nt ≡ m.logon.message.nt → IsPlainlyAccepted past n hash → IsPlainlyAccepted past m hash → ⊥)
      past.book.messages) past.book.messages at_one.place at_one.item (responses hash) at_one.there)
      at_other.there links (at_one.is.response ∙ sym at_other.is.response) (plainly k one nt hash at_one.place at_one.item here at_one.there at_one.is)
      (plainly l other nt hash at_other.place at_other.item also at_other.there at_other.is)))
