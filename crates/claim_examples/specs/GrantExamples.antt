-- Runs that were written down by hand on which what is claimed of grants holds, and some on which it doesn't: it is
-- neither true nor false of everything that could be written down of a run (this project's own choice). Responses and
-- credentials in them are the values of their functions.
use Rattle.std.specs.Prelude.{ℕ, ◌≡◌, ◌≢◌, true, List, [], ◌∷◌, replicate, Some, codes}
use Rattle.outside.specs.declared.action.Action.TheVariants as action
use Rattle.outside.specs.declared.action.Judged.TheVariants as judged
use Rattle.ntlm_responses.specs.Responses.{response_v1_of}
use Rattle.authenticators.specs.Sequences.{return_of}
use Rattle.authenticators.specs.SecureChannels.{key_of_channel}
use Rattle.logon_stubs.specs.declared.calls.LogonCall.{LogonCall}
use Rattle.logon_stubs.specs.declared.calls.Reply.{Reply}
use Rattle.logon_stubs.specs.Ranges.{InRangeReply}
use Rattle.logon_stubs.specs.Status.{account_disabled, wrong_password}
use Rattle.account_table.specs.AccountTable.{AccountTable}
use Rattle.account_table.specs.declared.account.Kind.TheVariants.{Workstation}
use Rattle.sam_logon.specs.Granting.{granting_reply}
use Rattle.domain_controller.specs.Machine.{Desk, answer_logon}
use Rattle.controller_calls.specs.declared.line.Line.{Line}
use Rattle.step_notes.specs.ControllerNotes.{Where, judging_of, new_actions}
use Rattle.step_notes.specs.GrantSends.{IsSentAsGranted, actions_granting, info_granted}
use Rattle.step_notes.specs.Records.{Judging, MessageTaken, blank}
use Rattle.controller_calls.specs.declared.calls.JudgedCall.TheVariants.{Network}
use Rattle.domain_world.specs.Claims.{info_asked}
use Rattle.domain_world.specs.Claims.Counts.{EachCallRaisesOnce, RaisesCount}
use Rattle.domain_world.specs.Claims.Grants.{GrantsWhoMayLogOn}
use Rattle.domain_world.specs.Past.{Past}
use Rattle.claim_examples.specs.ClaimExamples.{elsewhere, judged_as, judging, next_call, next_logon, small_account, small_channel, small_computers, small_hash, small_plan, small_table, small_world, with_response}

-- one call was judged in a run from a plan with this table
abbrev pub judged_from : AccountTable → Judging → Past
judged_from table j = record {
  plan = record small_plan { tables = table ∷ [] };
  world = small_world;
  book = record blank { judged = j ∷ [] };
}

-- by that table
abbrev pub judged_by : AccountTable → Judging → Past
judged_by table j = judged_from table (record j { table = table })

abbrev pub disabled_table : AccountTable
disabled_table = record small_table { accounts = record small_account { disabled = true } ∷ [] }

abbrev pub counted_table : ℕ → AccountTable
counted_table count = record small_table { accounts = record small_account { bad_count = count } ∷ [] }

abbrev pub empty_table : AccountTable
empty_table = record small_table { accounts = [] }

-- ann with that hash; and with her an account of FILE1 that has it
abbrev pub hashed_table : List ℕ → AccountTable
hashed_table hash = record small_table { accounts = record small_account { hash = hash } ∷ [] }

abbrev pub machine_table : List ℕ → AccountTable
machine_table hash = record small_table {
  accounts = small_account ∷ record small_account { name = codes "FILE1$"; kind = Workstation; hash = hash } ∷ [];
}

-- the call asks for this message, or at that level, in place of its own
abbrev pub asking_for : MessageTaken → Judging
asking_for message = record next_call { asked = Network (record next_logon { info = info_asked message }) }

abbrev pub at_level : ℕ → Judging
at_level level = record next_call { asked = Network (record next_logon { validation = level }) }

-- Grants: of a call with the next credential of its channel, for ann, whose response is hers; and of her account
-- disabled, where it is refused.
pub record OfGrants : Type 0 where
  pub meets : GrantsWhoMayLogOn (judged_by small_table next_call)
  pub disabled : GrantsWhoMayLogOn (judged_by disabled_table (judged_as (judged.Passed account_disabled) next_call))
  -- ann's grant by the accounts of the plan, but for a count of bad passwords
  pub counted : GrantsWhoMayLogOn (judged_from small_table (record next_call { table = counted_table 1 }))
  -- ann's grant with another hash of FILE1's account, as a NetrServerPasswordSet may have set it
  pub set : GrantsWhoMayLogOn (judged_from (machine_table small_hash) (record next_call { table = machine_table (replicate 16 8) }))
  pub at_two : GrantsWhoMayLogOn (judged_by small_table (at_level 2))
  -- not where ann's call was refused, or barred, though she may log on
  pub fails_refused : GrantsWhoMayLogOn (judged_by small_table (judged_as (judged.Passed wrong_password) next_call)) → ⊥
  pub fails_barred : GrantsWhoMayLogOn (judged_by small_table (judged_as judged.Barred next_call)) → ⊥
  -- the claim isn't met where ann was granted with her account disabled, on a response to another challenge or of 25
  -- bytes, at another level, or with no channel
  pub fails_disabled : GrantsWhoMayLogOn (judged_by disabled_table next_call) → ⊥
  pub fails_response : GrantsWhoMayLogOn (judged_by small_table (asking_for (with_response (response_v1_of small_hash (replicate 8 8))))) → ⊥
  pub fails_long : GrantsWhoMayLogOn (judged_by small_table (asking_for (with_response (replicate 25 0)))) → ⊥
  pub fails_level : GrantsWhoMayLogOn (judged_by small_table (at_level 4)) → ⊥
  pub fails_next : GrantsWhoMayLogOn (judged_by small_table judging) → ⊥
  -- the claim isn't met where ann was judged by other accounts than those of the plan or with another hash of hers,
  -- under another name, or at a controller that the plan doesn't have
  pub fails_table : GrantsWhoMayLogOn (judged_from empty_table next_call) → ⊥
  pub fails_set : GrantsWhoMayLogOn (judged_from (hashed_table (replicate 16 8)) (record next_call { table = small_table })) → ⊥
  pub fails_name : GrantsWhoMayLogOn (judged_by small_table (record next_call { name = codes "BDC" })) → ⊥
  pub fails_controller : GrantsWhoMayLogOn (judged_by small_table (elsewhere next_call)) → ⊥

-- PDC, with ann's account and a channel of FILE1, before it has done anything
abbrev pub small_desk : Desk
small_desk = record { table = small_table; work = record { computers = small_computers []; actions = [] } }

abbrev pub small_call : LogonCall
small_call = next_logon

-- a line with frames of at most 5,840 bytes; and the reply to that call, with this key in it
abbrev pub small_line : Line
small_line = record { link = 2; call = 3; context = 0; limit = 5840 }

abbrev pub reply_with_key : List ℕ → Reply
reply_with_key key =
    granting_reply (Some (record { credential = return_of (key_of_channel (small_channel [])) [] 0; timestamp = 0 }))
    small_call.validation (info_granted next_call small_call small_account) key 1 0

-- What is sent: that call is granted there, whenever it comes, so it is sent what her account is granted; where nothing
-- was done, nothing was sent so, nor where something was sent twice. Of two replies whose fields are in range, and that
-- differ in their keys, at most one was sent so.
pub record OfSending : Type 0 where
  pub meets : (w : Where) (line : Line) (after : Desk) →
      after ≡ answer_logon small_call.computer small_call.authenticator w.name w.moment line small_call.info small_call.validation small_desk →
      IsSentAsGranted (judging_of w line (Network small_call) small_desk (Some after)) small_call line (new_actions (Some after) small_desk)
  pub fails : (line : Line) → IsSentAsGranted next_call small_call line [] → ⊥
  pub fails_twice : (line : Line) (bytes : List ℕ) →
      IsSentAsGranted next_call small_call line
      (action.Judged (judged.Passed 0) ∷ action.Send line.link bytes ∷ action.Send line.link bytes ∷ [])
      → ⊥
  pub fails_key : (one other : List ℕ) → InRangeReply (reply_with_key one) → InRangeReply (reply_with_key other) → one ≢ other →
      IsSentAsGranted next_call small_call small_line (actions_granting small_line (reply_with_key one)) →
      IsSentAsGranted next_call small_call small_line (actions_granting small_line (reply_with_key other)) → ⊥

-- one unit carried ann's call with a response of 25 bytes, which is refused and counts, and it was judged so often
abbrev pub wrong_call : Judging
wrong_call = record (asking_for (with_response (replicate 25 0))) { table = small_table; how = Some (judged.Passed wrong_password) }

-- ann's account is locked, so the call is refused before the response is looked at
abbrev pub locked_call : Judging
locked_call =
    record wrong_call { table = record small_table { accounts = record small_account { locked = true } ∷ [] } }

abbrev pub judged_all : List Judging → Past
judged_all calls = record { plan = small_plan; world = small_world; book = record blank { judged = calls } }

-- Counts: a call whose response is refused raises one, once; not twice, where one unit carried it. A call that is
-- barred raises none, nor one that another rule refuses before.
pub record OfCounts : Type 0 where
  pub raises : RaisesCount wrong_call
  pub meets : EachCallRaisesOnce (judged_all (wrong_call ∷ []))
  pub barred : RaisesCount (record wrong_call { how = Some judged.Barred }) → ⊥
  pub locked : RaisesCount locked_call → ⊥
  pub fails_twice : EachCallRaisesOnce (judged_all (wrong_call ∷ wrong_call ∷ [])) → ⊥

-- All that this file says of grants and of what they send.
pub record GrantsTellApart : Type 0 where
  pub grants : OfGrants
  pub sending : OfSending
  pub counts : OfCounts
