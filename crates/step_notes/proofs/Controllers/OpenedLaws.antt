-- What a NetrServerAuthenticate2 comes to at a controller, by the channel that is written down of it: an instance of
-- `opening_comes`. It serves `replies_are_sent_as_judged`, `channels_are_named_alike`, `calls_change_what_is_kept` and
-- `Proved.grants`.
use Rattle.std.proofs.Common.{◌≡◌, ◌≢◌, ℕ, Bool, true, false, Option, Some, None, refl, sym, subst, bytes_eq}
use Rattle.ntlm_flags.specs.Flags.{has_flag}
use Rattle.channel_keys.specs.Credentials.{cred_of}
use Rattle.channel_keys.specs.Flags.{rc4_flag}
use Rattle.authenticators.specs.SecureChannels.{SecureChannelState, key_of_channel}
use Rattle.logon_stubs.specs.declared.calls.AuthCall.{AuthCall}
use Rattle.account_table.specs.declared.account.Account.{Account}
use Rattle.controller_calls.specs.Opening.{channel_for, deny_channel, judge_account, open_channel}
use Rattle.controller_calls.specs.declared.line.Line.{Line}
use Rattle.controller_calls.specs.declared.state.ChallengePair.{ChallengePair}
use Rattle.controller_calls.specs.declared.state.Work.{Work}
use Rattle.controller_calls.proofs.OutcomeLaws.{Opens, opening_comes}
use Rattle.step_notes.specs.ControllerNotes.{opened_account, opened_if, opened_offer, opened_pair}

module _ (found : Option Account) (waiting : Option ChallengePair) (c : AuthCall) where
  -- a channel that opens is written down
  pub opened_is : (opens : Opens found waiting c) → opened_account found waiting c ≡ Some (channel_for opens.account opens.pair c)
  opened_is opens = rw (opens.is_account, opens.is_pair, opens.offers, opens.proves) refl

  -- where none opens none is
  module _ (none : Opens found waiting c → ⊥) where
    client_none : (right : Bool) (account : Account) (pair : ChallengePair) → found ≡ Some account → waiting ≡ Some pair → has_flag c.flags rc4_flag ≡ true →
        bytes_eq c.credential (cred_of (key_of_channel (channel_for account pair c)) pair.client) ≡ right → opened_if right (channel_for account pair c) ≡ None
    client_none false account pair here there offers is = refl
    client_none true account pair here there offers is =
        absurd (none (record { account = account; pair = pair; is_account = here; is_pair = there; offers = offers; proves = is }))

    pair_none : (pair : Option ChallengePair) (account : Account) → found ≡ Some account → waiting ≡ pair → has_flag c.flags rc4_flag ≡ true → opened_pair pair account c ≡ None
    pair_none None account here there offers = refl
    pair_none (Some pair) account here there offers =
        client_none (bytes_eq c.credential (cred_of (key_of_channel (channel_for account pair c)) pair.client)) account pair here there offers refl

    offer_none : (offered : Bool) (account : Account) → found ≡ Some account → has_flag c.flags rc4_flag ≡ offered → opened_offer offered waiting account c ≡ None
    offer_none false account here offers = refl
    offer_none true account here offers = pair_none waiting account here refl offers

    account_none : (account : Option Account) → found ≡ account → opened_account account waiting c ≡ None
    account_none None here = refl
    account_none (Some account) here = offer_none (has_flag c.flags rc4_flag) account here refl

-- what is said of the channel that is written down, if one is, and of the controller at work
pub record NotedCases (Comes : Option SecureChannelState → Work → Type 0) (found : Option Account) (waiting : Option ChallengePair) (line : Line) (c : AuthCall) (taken : Work) : Type 0 where
  pub denied : (status : ℕ) → status ≢ 0 → Comes None (deny_channel taken line c.flags status)
  pub accepted : (opens : Opens found waiting c) →
      Comes (Some (channel_for opens.account opens.pair c)) (open_channel true (channel_for opens.account opens.pair c) line c taken)

pub opening_noted : (Comes : Option SecureChannelState → Work → Type 0) (found : Option Account) (waiting : Option ChallengePair) (line : Line) (c : AuthCall) (taken : Work) →
    NotedCases Comes found waiting line c taken → Comes (opened_account found waiting c) (judge_account found waiting line c taken)
opening_noted Comes found waiting line c taken cases =
    opening_comes (λ later. Comes (opened_account found waiting c) later) found waiting line c taken (record {
      denied = λ status fails none.
          subst (λ (opened : Option SecureChannelState). Comes opened (deny_channel taken line c.flags status)) (sym (account_none found waiting c none found refl)) (cases.denied status fails);
      accepted = λ opens.
          subst (λ (opened : Option SecureChannelState). Comes opened (open_channel true (channel_for opens.account opens.pair c) line c taken)) (sym (opened_is found waiting c opens))
          (cases.accepted opens);
    })
