-- How often a call raises an account's count of bad passwords (this project's own choice).
use Rattle.std.specs.Prelude.{ℕ, ◌≡◌, ◌<◌, true, Some, slice_get}
use Rattle.account_table.specs.declared.account.Account.{Account}
use Rattle.step_notes.specs.ControllerNotes.{has_passed}
use Rattle.step_notes.specs.Records.{InUnit, Judging}
use Rattle.domain_world.specs.Claims.Tables.{left_by}
use Rattle.domain_world.specs.Past.{Past}

-- The call passed, and by what is left of it the count of some account grew.
pub record RaisesCount (j : Judging) : Type 0 where
  pub passed : has_passed j.how ≡ true
  pub place : ℕ
  pub before : Account
  pub after : Account
  pub was : slice_get j.table.accounts place ≡ Some before
  pub is : slice_get (left_by j).accounts place ≡ Some after
  pub grew : before.bad_count < after.bad_count

-- Each call that an end made raises a count at most once: of the judgings of calls that one unit of the bag
-- carried, at most one does. A copy of its bytes that a stranger hands in is another call.
abbrev pub EachCallRaisesOnce : Past → Type 0
EachCallRaisesOnce past =
    (one other unit : ℕ) (first second : Judging) →
    slice_get past.book.judged one ≡ Some first → slice_get past.book.judged other ≡ Some second →
    first.source ≡ InUnit unit → second.source ≡ InUnit unit → RaisesCount first → RaisesCount second → one ≡ other
