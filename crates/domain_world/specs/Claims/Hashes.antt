-- Which hash each account of a controller has in a run: the one that a call set last which passed there, or that of the
-- plan (MS-NRPC 3.5.4.4.6; what is claimed is this project's own choice).
use Rattle.std.specs.Prelude.{ℕ, ◌≡◌, ◌==◌, Bool, true, false, List, [], ◌∷◌, Option, Some, None, slice_get}
use Rattle.std.specs.Option.{option_map}
use Rattle.authenticators.specs.SecureChannels.{SecureChannelState, key_of_channel}
use Rattle.secret_change.specs.Hiding.{show_of}
use Rattle.account_table.specs.AccountTable.{AccountTable}
use Rattle.account_table.specs.LookUps.{machine_in}
use Rattle.account_table.specs.declared.account.Account.{Account}
use Rattle.controller_calls.specs.declared.calls.JudgedCall.{JudgedCall}
use Rattle.controller_calls.specs.declared.calls.JudgedCall.TheVariants.{Interactive, Logoff, Network, NetworkLogoff, Set}
use Rattle.domain_controller.specs.State.{State as ControllerState}
use Rattle.step_notes.specs.ControllerNotes.{has_passed}
use Rattle.step_notes.specs.Records.{Judging}
use Rattle.domain_world.specs.Past.{Past}

-- the hash of the account at a place, if there is one
abbrev pub hash_at : AccountTable → ℕ → Option (List ℕ)
hash_at table place = option_map (λ (account : Account). account.hash) (slice_get table.accounts place)

-- the hash at a place behind a call that sets one, by whether it sets that one
abbrev pub hash_if : (hit : Bool) → List ℕ → Option (List ℕ) → Option (List ℕ)
hash_if false shown before = before
hash_if true shown None = None
hash_if true shown (Some hash) = Some shown

-- by the place whose hash is set, if there is one
abbrev pub hash_set : Option ℕ → List ℕ → ℕ → Option (List ℕ) → Option (List ℕ)
hash_set None shown place before = before
hash_set (Some at) shown place before = hash_if (at == place) shown before

-- Behind a call that passed on a channel: a NetrServerPasswordSet sets the secret that its bytes show under the key of
-- the channel, for the machine's account that it names. No other call sets any.
abbrev pub hash_by : JudgedCall → SecureChannelState → AccountTable → ℕ → Option (List ℕ) → Option (List ℕ)
hash_by (Network c) channel table place before = before
hash_by (Interactive c) channel table place before = before
hash_by (Logoff c) channel table place before = before
hash_by (NetworkLogoff c) channel table place before = before
hash_by (Set c) channel table place before =
    hash_set (machine_in table.accounts c.account c.channel c.computer) (show_of (key_of_channel channel) c.hidden) place before

abbrev pub hash_on : Option SecureChannelState → Judging → ℕ → Option (List ℕ) → Option (List ℕ)
hash_on None j place before = before
hash_on (Some channel) j place before = hash_by j.asked channel j.table place before

abbrev pub hash_passed : (has_passed : Bool) → Judging → ℕ → Option (List ℕ) → Option (List ℕ)
hash_passed false j place before = before
hash_passed true j place before = hash_on j.checks j place before

-- behind a judged call
abbrev pub hash_behind : Judging → ℕ → Option (List ℕ) → Option (List ℕ)
hash_behind j place before = hash_passed (has_passed j.how) j place before

abbrev pub hash_own : (own : Bool) → Judging → ℕ → Option (List ℕ) → Option (List ℕ)
hash_own false j place before = before
hash_own true j place before = hash_behind j place before

-- the hash at that place of that controller behind these judged calls, the newest first, from that of the plan
abbrev pub hash_after : Option (List ℕ) → ℕ → ℕ → List Judging → Option (List ℕ)
hash_after planned controller place [] = planned
hash_after planned controller place (j ∷ earlier) =
    hash_own (j.controller == controller) j place (hash_after planned controller place earlier)

-- The hash of each account of each controller after the run is the one of the plan, or the last that a call set.
abbrev pub HashesFollowSets : Past → Type 0
HashesFollowSets past =
    (controller : ℕ) (c : ControllerState) (planned : AccountTable) → slice_get past.plan.tables controller ≡ Some planned →
    slice_get past.world.state.ends.controllers controller ≡ Some c → (place : ℕ) →
    hash_at c.table place ≡ hash_after (hash_at planned place) controller place past.book.judged
