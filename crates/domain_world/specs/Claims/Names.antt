-- By which names a member server lets in (MS-NLMP 3.2.5.1.2, MS-NRPC 2.2.1.4.13): those of the accounts by which the
-- call was granted whose answer it took. What a claim says is this project's own choice.
use Rattle.std.specs.Prelude.{◌≡◌, true, List, Some, ℕ}
use Rattle.std.specs.List.{AllByRecursion}
use Rattle.outside.specs.declared.action.Judged.TheVariants as judged
use Rattle.outside.specs.declared.action.Outcome.{Outcome}
use Rattle.outside.specs.declared.action.Outcome.TheVariants as outcome
use Rattle.account_table.specs.LookUps.{account_in}
use Rattle.account_table.specs.declared.account.Account.{Account}
use Rattle.wire_base.specs.Lists.{OneOf}
use Rattle.step_notes.specs.Records.{Judging, MessageTaken, OutcomeTold}
use Rattle.world_moves.specs.Counting.{is_in}
use Rattle.domain_world.specs.Claims.{answers, info_asked}
use Rattle.domain_world.specs.Past.{Past}

-- somebody is let in, by this domain and this name
abbrev pub HasNames : Outcome → List ℕ → List ℕ → Type 0
HasNames (outcome.In domain user key) its_domain name = (domain ≡ its_domain) × (user ≡ name)
HasNames _ its_domain name = ⊥

-- The call that the member made for the message passed at this step and was granted there, its reply is the answer that
-- the member took, and the names are those of its accounts: their domain, and the account that they have of the user
-- that the message names.
pub record IsNamedBy (told : OutcomeTold) (message : MessageTaken) (j : Judging) : Type 0 where
  pub answer : answers message j ≡ true
  pub granted : j.how ≡ Some (judged.Passed 0)
  pub account : Account
  pub found : account_in j.table.accounts (info_asked message).user ≡ Some account
  pub names : HasNames told.outcome j.table.domain account.name

-- the message came on that link, and the names are by one of the steps
pub record IsLetInByName (judgings : List Judging) (told : OutcomeTold) (message : MessageTaken) : Type 0 where
  pub link : message.link ≡ told.link
  pub member : message.member ≡ told.member
  pub named : OneOf (IsNamedBy told message) judgings

-- Whoever is let in is let in by the names of the accounts that granted it. A member tells no other domain, and no
-- other user than the account that the message's user has there.
abbrev pub LetsInByName : Past → Type 0
LetsInByName past =
    AllByRecursion (λ (told : OutcomeTold). is_in told.outcome ≡ true →
    OneOf (λ (message : MessageTaken). IsLetInByName past.book.judged told message) past.book.messages) past.book.told
