-- The structures in Netlogon's calls, each as a layout (MS-NRPC 2.2.1; C706 14.3). Padding, nonzero referents and
-- maximum lengths are free. Each structure stands behind a referent, and each head behind parts of whole 4 bytes, so at
-- a multiple of 4, as C706 14.3.2 aligns them: no padding comes before one.
use Rattle.std.specs.Prelude.{ℕ, ◌≡◌, ◌⊎◌, ◌==◌, ◌||◌, Bool, true, false, List, [], ◌∷◌, Result, Ok, Err, get_or, nat_le}
use Rattle.ndr_codec.specs.Cursor.{Cursor}
use Rattle.ndr_codec.specs.Layout.{start_of, short, long, raw, pointer, sid}
use Rattle.ndr_codec.specs.Parts.{some_pointer, halves, reserved, head, target, units, bytes}
use Rattle.ndr_codec.specs.declared.parts.Head.{Head}
use Rattle.wire_base.specs.Sid.{SidParts}
use Rattle.wire_base.specs.declared.authenticator.Authenticator.{Authenticator}
use Rattle.logon_stubs.specs.declared.refused.StubRefused.{StubRefused}
use Rattle.logon_stubs.specs.declared.refused.StubRefused.TheVariants.{BadStub, Memory}
use Rattle.logon_stubs.specs.declared.info.NetworkInfo.{NetworkInfo}
use Rattle.logon_stubs.specs.declared.info.SamInfo.{SamInfo}
use Rattle.logon_stubs.specs.Layout.{Layout, reading_of, item, part, done, only, placed, each, times, ◌>>=◌}

-- ---- authenticators

-- NETLOGON_AUTHENTICATOR (MS-NRPC 2.2.1.1.5)
unfoldable pub authenticator : Layout Authenticator
authenticator = do
  credential ← item (raw 8)
  timestamp ← item long
  done (record { credential = credential; timestamp = timestamp })

-- ---- NETLOGON_NETWORK_INFO, with its NETLOGON_LOGON_IDENTITY_INFO in front (MS-NRPC 2.2.1.4.5, 2.2.1.4.15)

-- the structure, and then the targets in the order of their pointers (C706 14.3.12.3)
unfoldable pub network_info : Layout NetworkInfo
network_info = do
  domain_head ← part (head 2)
  control ← item long
  logon_id ← part halves
  user_head ← part (head 2)
  workstation_head ← part (head 2)
  challenge ← item (raw 8)
  nt_head ← part (head 1)
  lm_head ← part (head 1)
  domain ← part (units domain_head)
  user ← part (units user_head)
  workstation ← part (units workstation_head)
  nt ← part (bytes nt_head)
  lm ← part (bytes lm_head)
  done (record { domain = domain; control = control; logon_id = logon_id; user = user; workstation = workstation; challenge = challenge; nt = nt; lm = lm })

-- ---- NETLOGON_VALIDATION_SAM_INFO and NETLOGON_VALIDATION_SAM_INFO2 (MS-NRPC 2.2.1.4.11, 2.2.1.4.12)

-- six of the same, as the code holds them
abbrev pub Six : Type 0 → Type 0
Six T = T × T × T × T × T × T

abbrev pub list_of : {T : Type 0} → Six T → List T
list_of six = six.0 ∷ six.1 ∷ six.2 ∷ six.3 ∷ six.4 ∷ six.5 ∷ []

-- what a function promises that reads six of them
abbrev pub ReadsSix : {T : Type 0} → Layout (List T) → Result (Six T) StubRefused → Cursor → Cursor → Type 0
ReadsSix layout (Ok six) old new = reading_of layout old ≡ Ok (list_of six, new)
ReadsSix layout (Err refused) old new = (refused ≡ Memory) ⊎ (reading_of layout old ≡ Err refused)

-- the times of logon, logoff and kick-off, and those at which the password was set, can change and must change
unfoldable pub sam_times : Layout (List ℕ)
sam_times = times 6 (part halves)

-- the heads of the effective name, the full name, the script, the profile, the home and the home drive
unfoldable pub sam_heads : Layout (List Head)
sam_heads = times 6 (part (head 2))

-- the texts that heads lead to, in the order of the heads
unfoldable pub sam_texts : List Head → Layout (List (List ℕ))
sam_texts heads = each (λ front. part (units front)) heads

-- the counts of logons and of bad passwords, and the relative identifiers of the user and of the primary group
unfoldable pub sam_numbers : Layout (ℕ × ℕ × ℕ × ℕ)
sam_numbers = do
  logon_count ← item short
  bad_count ← item short
  user_id ← item long
  group_id ← item long
  done (logon_count, bad_count, user_id, group_id)

-- the head of an array in the structure: at most 256 entries (this project's own choice), and a pointer to them, which
-- may be null where there are none
unfoldable pub entries_pointer : ℕ → Layout (ℕ × Bool)
entries_pointer count = placed (λ place. do
  there ← item pointer
  only (there || count == 0) (BadStub (start_of 4 place)) (done (count, there)))

unfoldable pub entries_head : Layout (ℕ × Bool)
entries_head = placed (λ place. do
  count ← item long
  only (nat_le count 256) (BadStub (start_of 4 place)) (entries_pointer count))

-- the count in front of an array: that of its head again
unfoldable pub array_count : ℕ → Layout (Unit {0})
array_count count = placed (λ place. do
  actual ← item long
  only (actual == count) (BadStub (start_of 4 place)) (done tt))

-- a group: its relative identifier and its attributes (GROUP_MEMBERSHIP, MS-NRPC 2.2.1.4.10)
unfoldable pub group : Layout (ℕ × ℕ)
group = do
  identifier ← item long
  attributes ← item long
  done (identifier, attributes)

-- that many groups
abbrev pub groups : ℕ → Layout (List (ℕ × ℕ))
groups count = times count group

-- the groups' target: their count, and the groups
unfoldable pub group_array : ℕ → Layout (List (ℕ × ℕ))
group_array count = do
  counted ← array_count count
  groups count

unfoldable pub groups_target : ℕ × Bool → Layout (List (ℕ × ℕ))
groups_target front = target (group_array front.0) front.1

-- which validation levels have extra identifiers: level 2 is NETLOGON_VALIDATION_SAM_INFO, level 3
-- NETLOGON_VALIDATION_SAM_INFO2, which has
abbrev pub has_extra : ℕ → Bool
has_extra level = level == 3

-- the head of the extra identifiers, where the structure has them
abbrev pub extra_head : Bool → Layout (ℕ × Bool)
extra_head false = done (0, false)
extra_head true = entries_head

-- an entry of their array: a pointer that isn't null, and the attributes (NETLOGON_SID_AND_ATTRIBUTES, MS-NRPC
-- 2.2.1.4.7)
unfoldable pub extra_entry : Layout ℕ
extra_entry = do
  there ← part some_pointer
  item long

-- that many entries
abbrev pub extra_entries : ℕ → Layout (List ℕ)
extra_entries count = times count extra_entry

-- the identifier of an entry, with its attributes
unfoldable pub extra_sid : ℕ → Layout (SidParts × ℕ)
extra_sid attributes = do
  identifier ← item sid
  done (identifier, attributes)

-- the extra identifiers of all entries, in order
abbrev pub extra_sids : List ℕ → Layout (List (SidParts × ℕ))
extra_sids attributes = each extra_sid attributes

-- the target of the extra identifiers: their count, the entries, and then their identifiers (C706 14.3.12.3)
unfoldable pub extra_array : ℕ → Layout (List (SidParts × ℕ))
extra_array count = do
  counted ← array_count count
  attributes ← extra_entries count
  extra_sids attributes

unfoldable pub extra_target : ℕ × Bool → Layout (List (SidParts × ℕ))
extra_target front = target (extra_array front.0) front.1

-- the structure, with extra identifiers or without, and then the targets in the order of their pointers (C706
-- 14.3.12.3); the ten reserved numbers, and the head of the extra identifiers, end the structure
unfoldable pub sam_info : Bool → Layout SamInfo
sam_info with_extra = do
  moments ← sam_times
  heads ← sam_heads
  numbers ← sam_numbers
  groups_front ← entries_head
  user_flags ← item long
  key ← item (raw 16)
  server_head ← part (head 2)
  domain_head ← part (head 2)
  identified ← part some_pointer
  passed ← part (reserved 10)
  extra_front ← extra_head with_extra
  texts ← sam_texts heads
  groups ← groups_target groups_front
  server ← part (units server_head)
  domain ← part (units domain_head)
  identifier ← item sid
  extra ← extra_target extra_front
  done (record {
    logon_time = get_or moments 0 0;
    logoff_time = get_or moments 1 0;
    kickoff_time = get_or moments 2 0;
    password_set = get_or moments 3 0;
    password_can_change = get_or moments 4 0;
    password_must_change = get_or moments 5 0;
    effective_name = get_or texts 0 [];
    full_name = get_or texts 1 [];
    script = get_or texts 2 [];
    profile = get_or texts 3 [];
    home = get_or texts 4 [];
    home_drive = get_or texts 5 [];
    logon_count = numbers.0;
    bad_count = numbers.1;
    user_id = numbers.2;
    group_id = numbers.3;
    groups = groups;
    user_flags = user_flags;
    key = key;
    server = server;
    domain = domain;
    sid = identifier;
    extra = extra;
  })
