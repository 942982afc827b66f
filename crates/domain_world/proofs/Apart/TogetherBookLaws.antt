-- What a controller accepts and judges keeps a requester and its controller together, by what is written down of it:
-- each opening has the account's hash, and each call that sets a secret of the account passes on the channel that was
-- accepted last. It serves `Proved.never_apart`.
use Rattle.std.proofs.Common.{◌≡◌, ℕ, ◌==◌, ◌&&◌, Bool, true, false, List, [], ◌∷◌, Option, Some, None, slice_get, refl, ap, ◌∙◌}
use Rattle.std.specs.List.{AllByRecursion}
use Rattle.std.specs.Option.{option_map}
use Rattle.authenticators.specs.Channels.{ChannelIdentity, SameChannel}
use Rattle.authenticators.specs.SecureChannels.{SecureChannelState, key_of_channel}
use Rattle.secret_change.specs.Hiding.{show_of}
use Rattle.secret_change.specs.Secrets.{SecretsState}
use Rattle.account_table.specs.AccountTable.{AccountTable}
use Rattle.account_table.specs.LookUps.{machine_in}
use Rattle.controller_calls.specs.Calls.{is_set}
use Rattle.controller_calls.specs.declared.calls.JudgedCall.{JudgedCall}
use Rattle.controller_calls.specs.declared.calls.JudgedCall.TheVariants.{Interactive, Logoff, Network, NetworkLogoff, Set}
use Rattle.channel_events.specs.AcceptedOrder.{Accepted, AreInOrder, IsMade, IsOf}
use Rattle.channel_events.specs.Marks.{Calling}
use Rattle.channel_events.specs.Requests.{CallsAreApart, Requests}
use Rattle.channel_events.specs.SecretOrder.{AreTogether, IsIn, OthersPassed, Sides}
use Rattle.channel_events.proofs.AcceptedOrderLaws.{stay_in_order}
use Rattle.wire_base.proofs.ListLaws.{not_both}
use Rattle.channel_events.proofs.SecretOrderLaws.{stay_together}
use Rattle.step_notes.specs.ControllerNotes.{has_passed}
use Rattle.step_notes.specs.Records.{ChannelAccepted, InUnit, Judging, Outside, Source}
use Rattle.domain_world.specs.Claims.AcceptedOpenings.{accepted_in, is_in_unit}
use Rattle.domain_world.specs.Claims.Hashes.{hash_after, hash_by, hash_if, hash_on, hash_own, hash_passed, hash_set}
use Rattle.domain_world.specs.Claims.NeverApart.{is_foreign_set, is_from_outside}
use Rattle.domain_world.specs.Claims.Openings.{is_opened_for, last_accepted, newer_if}
use Rattle.domain_world.specs.Past.{onto}
use Rattle.domain_world.proofs.Apart.AcceptedLaws.{of_opened, opened_of}
use Rattle.domain_world.proofs.Apart.OrderToldLaws.{AreOnce, once_older, unused_in}

-- ---- the account's hash, and by which calls it was set

-- the call sets a secret of the account at that place
abbrev pub is_place : Option ℕ → ℕ → Bool
is_place None place = false
is_place (Some at) place = at == place

abbrev pub sets_by : JudgedCall → AccountTable → ℕ → Bool
sets_by (Network c) table place = false
sets_by (Interactive c) table place = false
sets_by (Logoff c) table place = false
sets_by (NetworkLogoff c) table place = false
sets_by (Set c) table place = is_place (machine_in table.accounts c.account c.channel c.computer) place

abbrev pub sets_on : Option SecureChannelState → Judging → ℕ → Bool
sets_on None j place = false
sets_on (Some channel) j place = sets_by j.asked j.table place

-- a call by which a secret of that account is set passed at that controller
abbrev pub is_taken : ℕ → ℕ → Judging → Bool
is_taken controller place j = (j.controller == controller) && has_passed j.how && sets_on j.checks j place

-- the secret that its bytes show
abbrev pub shown_by : JudgedCall → SecureChannelState → List ℕ
shown_by (Network c) channel = []
shown_by (Interactive c) channel = []
shown_by (Logoff c) channel = []
shown_by (NetworkLogoff c) channel = []
shown_by (Set c) channel = show_of (key_of_channel channel) c.hidden

abbrev pub shown_on : Option SecureChannelState → JudgedCall → List ℕ
shown_on None asked = []
shown_on (Some channel) asked = shown_by asked channel

abbrev pub shown_in : Judging → List ℕ
shown_in j = shown_on j.checks j.asked

abbrev pub hash_so : Bool → List ℕ → List ℕ → List ℕ
hash_so false shown before = before
hash_so true shown before = shown

-- the hash of the account, which was that secret at first; the newest call stands first
abbrev pub hash_now : List ℕ → ℕ → ℕ → List Judging → List ℕ
hash_now secret controller place [] = secret
hash_now secret controller place (j ∷ earlier) =
    hash_so (is_taken controller place j) (shown_in j) (hash_now secret controller place earlier)

if_hash : (hit : Bool) (shown before : List ℕ) → hash_if hit shown (Some before) ≡ Some (hash_so hit shown before)
if_hash false shown before = refl
if_hash true shown before = refl

set_hash : (found : Option ℕ) (shown : List ℕ) (place : ℕ) (before : List ℕ) → hash_set found shown place (Some before) ≡ Some (hash_so (is_place found place) shown before)
set_hash None shown place before = refl
set_hash (Some at) shown place before = if_hash (at == place) shown before

by_hash : (asked : JudgedCall) (channel : SecureChannelState) (table : AccountTable) (place : ℕ) (before : List ℕ) →
    hash_by asked channel table place (Some before) ≡ Some (hash_so (sets_by asked table place) (shown_by asked channel) before)
by_hash (Network c) channel table place before = refl
by_hash (Interactive c) channel table place before = refl
by_hash (Logoff c) channel table place before = refl
by_hash (NetworkLogoff c) channel table place before = refl
by_hash (Set c) channel table place before =
    set_hash (machine_in table.accounts c.account c.channel c.computer) (show_of (key_of_channel channel) c.hidden) place before

on_hash : (checks : Option SecureChannelState) (j : Judging) (place : ℕ) (before : List ℕ) →
    hash_on checks j place (Some before) ≡ Some (hash_so (sets_on checks j place) (shown_on checks j.asked) before)
on_hash None j place before = refl
on_hash (Some channel) j place before = by_hash j.asked channel j.table place before

passed_hash : (passed : Bool) (j : Judging) (place : ℕ) (before : List ℕ) →
    hash_passed passed j place (Some before) ≡ Some (hash_so (passed && sets_on j.checks j place) (shown_in j) before)
passed_hash false j place before = refl
passed_hash true j place before = on_hash j.checks j place before

own_hash : (own : Bool) (j : Judging) (place : ℕ) (before : List ℕ) →
    hash_own own j place (Some before) ≡ Some (hash_so (own && has_passed j.how && sets_on j.checks j place) (shown_in j) before)
own_hash false j place before = refl
own_hash true j place before = passed_hash (has_passed j.how) j place before

-- the hash behind calls is the one that `hashes_follow_sets` gives
pub hash_is : (secret : List ℕ) (controller place : ℕ) (judged : List Judging) → hash_after (Some secret) controller place judged ≡ Some (hash_now secret controller place judged)
hash_is secret controller place [] = refl
hash_is secret controller place (j ∷ earlier) =
    ap (λ (before : Option (List ℕ)). hash_own (j.controller == controller) j place before) (hash_is secret controller place earlier)
    ∙ own_hash (j.controller == controller) j place (hash_now secret controller place earlier)

-- ---- units whose calls passed

abbrev pub unit_of : Source → List ℕ → List ℕ
unit_of (InUnit n) units = n ∷ units
unit_of Outside units = units

abbrev pub units_if : Bool → Source → List ℕ → List ℕ
units_if false source units = units
units_if true source units = unit_of source units

abbrev pub passed_units : List Judging → List ℕ
passed_units [] = []
passed_units (j ∷ earlier) = units_if (has_passed j.how) j.source (passed_units earlier)

abbrev pub taken_units : ℕ → ℕ → List Judging → List ℕ
taken_units controller place [] = []
taken_units controller place (j ∷ earlier) = units_if (is_taken controller place j) j.source (taken_units controller place earlier)

-- ---- what both have, by what is written down

-- a requester that asks alone as a computer with a controller, the place of its account there, its first secret, and
-- the secret that the call in each unit sets
pub record Pairing : Type 0 where
  pub who : ℕ
  pub controller : ℕ
  pub computer : List ℕ
  pub place : ℕ
  pub secret : List ℕ
  pub asks : ℕ → Option (List ℕ)

abbrev pub channel_of_one : ChannelAccepted → ChannelIdentity
channel_of_one one = one.channel

abbrev pub keeps_now : Pairing → List ChannelAccepted → Option ChannelIdentity
keeps_now p accepted = option_map channel_of_one (last_accepted p.controller p.computer accepted)

abbrev pub sides_now : Pairing → List ChannelAccepted → List Judging → SecretsState → Option ℕ → Sides
sides_now p accepted judged held out = record {
  held = held;
  out = out;
  hash = hash_now p.secret p.controller p.place judged;
  keeps = keeps_now p accepted;
  asks = p.asks;
  passed = passed_units judged;
  took = taken_units p.controller p.place judged;
}

abbrev pub TogetherNow : Pairing → Requests ℕ → List ChannelAccepted → List Judging → SecretsState → Option ℕ → Type 0
TogetherNow p r accepted judged held out = AreTogether r p.who p.controller p.computer (accepted_in accepted) (sides_now p accepted judged held out)

abbrev pub OrderNow : Pairing → Requests ℕ → List ChannelAccepted → Type 0
OrderNow p r accepted = AreInOrder r p.who p.controller p.computer (accepted_in accepted)

module _ (p : Pairing) (r : Requests ℕ) (held : SecretsState) (out : Option ℕ) where
  abbrev Together : List ChannelAccepted → List Judging → Type 0
  Together accepted judged = TogetherNow p r accepted judged held out

  -- ---- an opening is accepted

  abbrev its : ChannelAccepted → Accepted
  its one = record { channel = one.channel; in_unit = is_in_unit one.source }

  by_test : (hit : Bool) (one : ChannelAccepted) (older : List ChannelAccepted) (judged : List Judging) → is_opened_for p.controller p.computer one ≡ hit → AreOnce (one ∷ older) →
      (is_in_unit one.source ≡ true → IsOf p.controller p.computer one.channel → one.channel.secret ≡ hash_now p.secret p.controller p.place judged) → OrderNow p r older → Together older judged →
      AreTogether r p.who p.controller p.computer (accepted_in (one ∷ older))
      (record (sides_now p older judged held out) { keeps = option_map channel_of_one (newer_if hit one (last_accepted p.controller p.computer older)) })
  by_test true one older judged is once secret order together =
      let of : IsOf p.controller p.computer one.channel = opened_of p.controller p.computer one is in
      (stay_together ℕ).accepts r p.who p.controller p.computer (accepted_in older) (sides_now p older judged held out) (its one) of (unused_in one.channel.server older once.0) (λ came. secret came of)
      order together
  by_test false one older judged is once secret order together =
      (stay_together ℕ).elsewhere r p.who p.controller p.computer (accepted_in older) (sides_now p older judged held out) (its one)
      (λ of. not_both (is_opened_for p.controller p.computer one) (of_opened p.controller p.computer one of) is) together

  -- each has the account's hash
  abbrev pub HasHash : List Judging → ChannelAccepted → Type 0
  HasHash judged one =
      is_in_unit one.source ≡ true → IsOf p.controller p.computer one.channel → one.channel.secret ≡ hash_now p.secret p.controller p.place judged

  pub accepts_all : (items older : List ChannelAccepted) (judged : List Judging) → AreOnce (onto items older) →
      AllByRecursion (λ (one : ChannelAccepted). is_in_unit one.source ≡ true → IsMade r.marks one.channel) items → AllByRecursion (HasHash judged) items → OrderNow p r older → Together older judged →
      OrderNow p r (onto items older) × Together (onto items older) judged
  accepts_all [] older judged once made secrets order together = (order, together)
  accepts_all (one ∷ items) older judged once made secrets order together =
      let here : AreOnce (one ∷ older) = once_older items (one ∷ older) once in
      accepts_all items (one ∷ older) judged once made.1 secrets.1
      ((stay_in_order ℕ).accepts r p.who p.controller p.computer (accepted_in older) (its one) (unused_in one.channel.server older here.0) made.0 order)
      (by_test (is_opened_for p.controller p.computer one) one older judged refl here secrets.0 order together)

  -- ---- a call is judged

  -- what is known of a call in a unit that passed, and of one by which a secret of the account was set
  pub record IsTakenSo (accepted : List ChannelAccepted) (earlier : List Judging) (j : Judging) (n : ℕ) : Type 0 where
    pub channel : ChannelIdentity
    pub number : ℕ
    pub timestamp : ℕ
    pub mark : slice_get r.marks n ≡ Some (Calling channel number timestamp)
    pub asks : p.asks n ≡ Some (shown_in j)
    pub kept : ChannelIdentity
    pub keeps : keeps_now p accepted ≡ Some kept
    pub same : SameChannel channel kept
    pub others : (unit : ℕ) → out ≡ Some unit → OthersPassed r p.who p.controller p.computer (sides_now p accepted earlier held out) (Some unit)

  abbrev pub JudgedSo : List ChannelAccepted → List Judging → Judging → Type 0
  JudgedSo accepted earlier j =
      (is_foreign_set j ≡ false) × ((n : ℕ) → j.source ≡ InUnit n → is_taken p.controller p.place j ≡ true → IsTakenSo accepted earlier j n)
      × ((n : ℕ) → j.source ≡ InUnit n → has_passed j.how ≡ true → IsIn n (passed_units earlier) → ⊥)

  sets_is_set : (asked : JudgedCall) (table : AccountTable) → sets_by asked table p.place ≡ true → is_set asked ≡ true
  sets_is_set (Network c) table sets = absurd (let never = sets in cc)
  sets_is_set (Interactive c) table sets = absurd (let never = sets in cc)
  sets_is_set (Logoff c) table sets = absurd (let never = sets in cc)
  sets_is_set (NetworkLogoff c) table sets = absurd (let never = sets in cc)
  sets_is_set (Set c) table sets = refl

  on_is_set : (checks : Option SecureChannelState) (j : Judging) → sets_on checks j p.place ≡ true → is_set j.asked ≡ true
  on_is_set None j sets = absurd (let never = sets in cc)
  on_is_set (Some channel) j sets = sets_is_set j.asked j.table sets

  both_of : (one other : Bool) → (one && other) ≡ true → (one ≡ true) × (other ≡ true)
  both_of true true is = (refl, refl)
  both_of true false is = absurd (let never = is in cc)
  both_of false other is = absurd (let never = is in cc)

  all_three : (one other third : Bool) → one ≡ true → other ≡ true → third ≡ true → (one && other && third) ≡ true
  all_three true true third a b c = c
  all_three true false third a b c = absurd (let never = b in cc)
  all_three false other third a b c = absurd (let never = a in cc)

  taken_passed : (j : Judging) → is_taken p.controller p.place j ≡ true → has_passed j.how ≡ true
  taken_passed j is =
      (both_of (j.controller == p.controller) (has_passed j.how) (both_of (j.controller == p.controller && has_passed j.how) (sets_on j.checks j p.place) is).0).1

  -- one from outside sets none of this account
  outside_none : (j : Judging) → is_foreign_set j ≡ false → j.source ≡ Outside → is_taken p.controller p.place j ≡ true → ⊥
  outside_none j none outside is =
      let sets : sets_on j.checks j p.place ≡ true = (both_of (j.controller == p.controller && has_passed j.how) (sets_on j.checks j p.place) is).1 in
      not_both (is_foreign_set j)
      (all_three (has_passed j.how) (is_set j.asked) (is_from_outside j.source) (taken_passed j is) (on_is_set j.checks j sets) (ap is_from_outside outside)) none

  abbrev Behind : List ChannelAccepted → List Judging → Bool → Bool → Judging → Source → Type 0
  Behind accepted earlier taken passed j source =
      AreTogether r p.who p.controller p.computer (accepted_in accepted)
      (record (sides_now p accepted earlier held out) {
        hash = hash_so taken (shown_in j) (hash_now p.secret p.controller p.place earlier);
        passed = units_if passed source (passed_units earlier);
        took = units_if taken source (taken_units p.controller p.place earlier);
      })

  by_judging : (taken passed : Bool) (source : Source) (accepted : List ChannelAccepted) (earlier : List Judging) (j : Judging) → is_taken p.controller p.place j ≡ taken → has_passed j.how ≡ passed →
      j.source ≡ source → JudgedSo accepted earlier j → CallsAreApart r → OrderNow p r accepted → Together accepted earlier → Behind accepted earlier taken passed j source
  by_judging false false source accepted earlier j taken passed came so apart order together = together
  by_judging false true Outside accepted earlier j taken passed came so apart order together = together
  by_judging false true (InUnit n) accepted earlier j taken passed came so apart order together =
      (stay_together ℕ).passes r p.who p.controller p.computer (accepted_in accepted) (sides_now p accepted earlier held out) n together
  by_judging true false source accepted earlier j taken passed came so apart order together = absurd (not_both (has_passed j.how) (taken_passed j taken) passed)
  by_judging true true Outside accepted earlier j taken passed came so apart order together = absurd (outside_none j so.0 came taken)
  by_judging true true (InUnit n) accepted earlier j taken passed came so apart order together =
      let its : IsTakenSo accepted earlier j n = so.1 n came taken in
      (stay_together ℕ).takes r p.who p.controller p.computer (accepted_in accepted) (sides_now p accepted earlier held out) n (shown_in j) (record {
        channel = its.channel;
        number = its.number;
        timestamp = its.timestamp;
        mark = its.mark;
        asks = its.asks;
        kept = its.kept;
        keeps = its.keeps;
        same = its.same;
        once = so.2 n came passed;
        others = its.others;
      }) apart order together

  abbrev pub AllJudgedSo : List ChannelAccepted → List Judging → List Judging → Type 0
  AllJudgedSo accepted [] earlier = Unit {0}
  AllJudgedSo accepted (j ∷ items) earlier = JudgedSo accepted earlier j × AllJudgedSo accepted items (j ∷ earlier)

  pub judges_all : (items earlier : List Judging) (accepted : List ChannelAccepted) → AllJudgedSo accepted items earlier → CallsAreApart r → OrderNow p r accepted → Together accepted earlier →
      Together accepted (onto items earlier)
  judges_all [] earlier accepted so apart order together = together
  judges_all (j ∷ items) earlier accepted so apart order together =
      judges_all items (j ∷ earlier) accepted so.1 apart order
      (by_judging (is_taken p.controller p.place j) (has_passed j.how) j.source accepted earlier j refl refl refl so.0 apart order together)
