-- Runs written down by hand in which somebody is let in: some meet the claims on who is, and others don't.
-- It serves `letting_in_tells_apart`.
use Rattle.std.proofs.Common.{◌≡◌, ◌≢◌, ◌<◌, ℕ, true, false, List, [], ◌∷◌, length, inl, inr, Option, Some, None, refl, sym, ap, ◌∙◌, subst, arith}
use Rattle.std.specs.Prelude.{codes, replicate}
use Rattle.wire_base.specs.Names.{same_name}
use Rattle.wire_base.specs.Names as names
use Rattle.wire_base.specs.Units.{units_of}
use Rattle.rc4_stream.proofs.Rc4Laws.{length-applied}
use Rattle.outside.specs.declared.action.Judged.TheVariants as judged
use Rattle.outside.specs.declared.action.Outcome.{Outcome}
use Rattle.outside.specs.declared.action.Outcome.TheVariants as outcome
use Rattle.account_table.specs.LookUps.{account_in, place_in}
use Rattle.account_table.specs.declared.account.Account.{Account}
use Rattle.wire_base.specs.Lists.{OneOf}
use Rattle.wire_base.proofs.ListLaws.{some_is}
use Rattle.step_notes.specs.Records.{OutcomeTold}
use Rattle.logon_stubs.specs.declared.info.SamInfo.{SamInfo}
use Rattle.member_server.specs.Outcomes.{exchange_in, key_in}
use Rattle.domain_world.specs.Claims.{info_asked}
use Rattle.domain_world.specs.Claims.LetIn.{IsLetInBy}
use Rattle.domain_world.specs.Claims.Names.{HasNames, IsLetInByName, IsNamedBy}
use Rattle.claim_examples.specs.ClaimExamples.{by_accounts, judging, message, small_account, told_of_link}
use Rattle.claim_examples.specs.LetInExamples.{OfLettingIn, OfNames, message_with_key, small_info, spelled_account, told_by_grant}

let_in_small : IsLetInBy (told_by_grant 3) message
let_in_small = record { link = refl; member = refl; before = omega arith; unit = 8; reply = refl; info = small_info; outcome = refl }

-- by whatever validation, the key that her message carries has 16 bytes
length_key : (info : SamInfo) → length (key_in info message_with_key.logon) ≡ 16
length_key info = length-applied (exchange_in info message_with_key.logon) 0 (replicate 16 5)

same_key : (domain user key other_domain other_user other : List ℕ) → outcome.In domain user key ≡ outcome.In other_domain other_user other → key ≡ other
same_key domain user key other_domain other_user other is = cc

not_key : IsLetInBy (told_of_link 3) message_with_key → ⊥
not_key one = absurd (let never : 1 ≡ 16 = ap length (same_key _ _ _ _ _ _ one.outcome) ∙ length_key one.info in cc)

pub of_letting_in : OfLettingIn
of_letting_in = record {
  meets = (λ is. inl let_in_small, tt);
  meets_other = (λ is. inr (inl let_in_small), tt);
  fails_elsewhere = λ claim. elim (claim.0 refl) [ inl one ↦ absurd (let never : 3 ≡ 4 = one.link in cc) | inr none ↦ none ];
  fails_member = λ claim. elim (claim.0 refl) [ inl one ↦ absurd (let never : 0 ≡ 1 = one.member in cc) | inr none ↦ none ];
  fails_unasked = λ claim. claim.0 refl;
  fails_unanswered = λ claim. elim (claim.0 refl) [ inl one ↦ absurd (let never : None ≡ Some one.unit = one.reply in cc) | inr none ↦ none ];
  fails_later = λ claim. elim (claim.0 refl) [ inl one ↦ absurd (let never : 9 < 9 = one.before in omega arith) | inr none ↦ none ];
  meets_key = (
    λ is. inl (record { link = refl; member = refl; before = omega arith; unit = 8; reply = refl; info = small_info; outcome = refl }),
    tt,
  );
  fails_key = λ claim. elim (claim.0 refl) [ inl one ↦ not_key one | inr none ↦ none ];
  refused = (λ is. absurd (let never : false ≡ true = is in cc), tt);
}

-- ---- names

abbrev pub Found : List Account → Option Account
Found accounts = account_in accounts (info_asked message).user

pub found_small : Found (small_account ∷ []) ≡ Some small_account
unfolding place_in same_name names.upper_of units_of
found_small = refl

found_spelled : Found (spelled_account ∷ []) ≡ Some spelled_account
unfolding place_in same_name names.upper_of units_of
found_spelled = refl

found_none : Found [] ≡ None
unfolding place_in
found_none = refl

-- who is let in by a name is let in as the one account is spelled
spelled_so : (account : Account) (told : OutcomeTold) (domain user key : List ℕ) → Found (account ∷ []) ≡ Some account → told.outcome ≡ outcome.In domain user key →
    OneOf (IsLetInByName (by_accounts (account ∷ []) ∷ []) told) (message ∷ []) → (domain ≡ codes "CORP") × (user ≡ account.name)
spelled_so account told domain user key found is one = elim one [
  | inl let_in ↦ elim let_in.named [
    | inl named ↦
        let same : named.account ≡ account = some_is named.account account (sym named.found ∙ found) in
        let names : HasNames (outcome.In domain user key) (codes "CORP") named.account.name = subst (λ (how : Outcome). HasNames how (codes "CORP") named.account.name) is named.names in
        (names.0, names.1 ∙ ap (λ (a : Account). a.name) same)
    | inr none ↦ absurd none
  ]
  | inr none ↦ absurd none
]

abbrev first_of : List ℕ → ℕ
first_of [] = 0
first_of (code ∷ text) = code

differ : (one other : List ℕ) → first_of one ≢ first_of other → one ≡ other → ⊥
differ one other apart same = apart (ap first_of same)

named_small : (told : OutcomeTold) → HasNames told.outcome (codes "CORP") (codes "ann") → IsNamedBy told message judging
named_small told names = record { answer = refl; granted = refl; account = small_account; found = found_small; names = names }

pub of_names : OfNames
of_names = record {
  meets = (λ is. inl (record { link = refl; member = refl; named = inl (named_small (told_of_link 3) (refl, refl)) }), tt);
  meets_spelled = (
    λ is. inl (record {
      link = refl;
      member = refl;
      named = inl (record { answer = refl; granted = refl; account = spelled_account; found = found_spelled; names = (refl, refl) });
    }),
    tt,
  );
  fails_user = λ claim. differ (codes "bob") (codes "ann") (λ same. absurd (let never : 98 ≡ 97 = same in omega arith)) (spelled_so small_account _ (codes "CORP") (codes "bob") (1 ∷ []) found_small refl (claim.0 refl)).1;
  fails_domain = λ claim. differ (codes "LAB") (codes "CORP") (λ same. absurd (let never : 76 ≡ 67 = same in omega arith)) (spelled_so small_account _ (codes "LAB") (codes "ann") (1 ∷ []) found_small refl (claim.0 refl)).0;
  fails_spelled = λ claim. differ (codes "ann") (codes "Ann") (λ same. absurd (let never : 97 ≡ 65 = same in omega arith)) (spelled_so spelled_account _ (codes "CORP") (codes "ann") (1 ∷ []) found_spelled refl (claim.0 refl)).1;
  fails_unknown = λ claim. elim (claim.0 refl) [
    | inl one ↦ elim one.named [ inl named ↦ absurd (let never : None ≡ Some named.account = sym found_none ∙ named.found in cc) | inr none ↦ none ]
    | inr none ↦ none
  ];
  fails_refused = λ claim. elim (claim.0 refl) [
    | inl one ↦ elim one.named [ inl named ↦ absurd (let never : Some (judged.Passed 5) ≡ Some (judged.Passed 0) = named.granted in cc) | inr none ↦ none ]
    | inr none ↦ none
  ];
  fails_answer = λ claim. elim (claim.0 refl) [
    | inl one ↦ elim one.named [ inl named ↦ absurd (let never : false ≡ true = named.answer in cc) | inr none ↦ none ]
    | inr none ↦ none
  ];
  fails_member = λ claim. elim (claim.0 refl) [ inl one ↦ absurd (let never : 0 ≡ 1 = one.member in cc) | inr none ↦ none ];
  out = (λ is. absurd (let never : false ≡ true = is in cc), tt);
}
