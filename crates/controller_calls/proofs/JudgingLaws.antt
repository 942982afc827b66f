-- A call on a channel whose authenticator passes. It serves `unsent_on`.
use Rattle.std.proofs.Common.{◌≡◌, ◌∙◌, ℕ, Bool, true, false, List, Option, Some, refl, sym, ap}
use Rattle.wire_base.specs.declared.authenticator.Authenticator.{Authenticator}
use Rattle.authenticators.specs.SecureChannels.{SecureChannelState, channel_by, key_of_channel, passes_on, return_by}
use Rattle.account_table.specs.AccountTable.{AccountTable}
use Rattle.controller_calls.specs.Desk.{desk, put_channel, take_channel}
use Rattle.controller_calls.specs.Handing.{CallPlace, trust_asked}
use Rattle.controller_calls.specs.Unsent.{on_unsent, pass_or_hand_unsent, returned_unsent}
use Rattle.controller_calls.specs.declared.calls.Asked.{Asked}
use Rattle.controller_calls.specs.declared.state.Work.{Work}

key_stays : (passes : Bool) (channel : SecureChannelState) (given : Authenticator) → key_of_channel (channel_by passes channel given) ≡ key_of_channel channel
key_stays false channel given = refl
key_stays true channel given = refl

module _ (what : Asked) (at : CallPlace) (computer : List ℕ) (given : Authenticator) (table : AccountTable) (work : Work) where
  abbrev moved : SecureChannelState → SecureChannelState
  moved channel = channel_by (passes_on channel given) channel given

  abbrev behind : SecureChannelState → Work
  behind channel = put_channel computer (moved channel) (take_channel computer work)

  passing : (found : Option SecureChannelState) (channel : SecureChannelState) (credential : List ℕ) → found ≡ Some channel →
      return_by (passes_on channel given) channel given ≡ Some credential →
      on_unsent found given what at computer (desk table (take_channel computer work))
      ≡ pass_or_hand_unsent (trust_asked what channel.kind table at.trusts) what at computer (key_of_channel channel) credential (desk table (behind channel))
  passing found channel credential is returns =
      ap (λ (f : Option SecureChannelState). on_unsent f given what at computer (desk table (take_channel computer work))) is
      ∙ ap (λ (r : Option (List ℕ)). returned_unsent r channel what at computer (desk table (behind channel))) returns

  -- with what the code has of each
  pub passed_on : (found : Option SecureChannelState) (channel later : SecureChannelState) (credential named copy key : List ℕ) (kind : Option ℕ) (rest after : Work) → found ≡ Some channel →
      return_by (passes_on channel given) channel given ≡ Some credential → later ≡ moved channel → kind ≡ channel.kind → key ≡ key_of_channel later → named ≡ computer →
      copy ≡ computer → rest ≡ take_channel computer work → after ≡ put_channel copy later rest →
      pass_or_hand_unsent (trust_asked what kind table at.trusts) what at named key credential (desk table after)
      ≡ on_unsent found given what at computer (desk table (take_channel computer work))
  passed_on found channel later credential named copy key kind rest after is returns moves kinds keys names copies rests afters =
      let key_is : key ≡ key_of_channel channel = keys ∙ ap key_of_channel moves ∙ key_stays (passes_on channel given) channel given in
      let after_is : after ≡ behind channel = afters ∙ (λ i. put_channel (copies i) (moves i) (rests i)) in
      let same : pass_or_hand_unsent (trust_asked what kind table at.trusts) what at named key credential (desk table after)
      ≡ pass_or_hand_unsent (trust_asked what channel.kind table at.trusts) what at computer (key_of_channel channel) credential (desk table (behind channel))
      = (λ i. pass_or_hand_unsent (trust_asked what (kinds i) table at.trusts) what at (names i) (key_is i) credential (desk table (after_is i))) in
      same ∙ sym (passing found channel credential is returns)
