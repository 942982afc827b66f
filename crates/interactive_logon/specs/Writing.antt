-- How an interactive logon or its logoff is put behind what is written of a stub, parameter by parameter (MS-NRPC
-- 3.5.4.5.3, 3.5.4.5.4; C706 14.3). Of what the layouts leave free, a maximum length is the length, and an empty
-- counted string has a null pointer (this project's own choice).
use Rattle.std.specs.Prelude.{ℕ, ◌≡◌, ◌*◌, Bool, true, false, List, length}
use Rattle.ndr_codec.specs.Layout.{short, long, raw, pointer, text}
use Rattle.ndr_codec.specs.Parts.{FitsText, IfThere, Putting, ◌>>◌, keep, put_unique, put_halves, put_head, put_units}
use Rattle.ndr_codec.specs.Writing.{nothing, put}
use Rattle.logon_stubs.specs.Writing.{put_authenticator}
use Rattle.interactive_logon.specs.declared.calls.InteractiveInfo.{InteractiveInfo}
use Rattle.interactive_logon.specs.declared.calls.InteractiveCall.{InteractiveCall}
use Rattle.interactive_logon.specs.Calls.{IsOpnum, is_logon}

-- ---- what can be written: texts of at most 32,767 units, and no validation level of a logoff

pub record CanWriteInfo (info : InteractiveInfo) : Type 0 where
  pub domain : FitsText info.domain
  pub user : FitsText info.user
  pub workstation : FitsText info.workstation

pub record CanWriteParameters (value : InteractiveCall) : Type 0 where
  pub server : IfThere FitsText value.server
  pub computer : IfThere FitsText value.computer
  pub info : CanWriteInfo value.info

pub record CanWriteInteractive (opnum : ℕ) (value : InteractiveCall) : Type 0 where
  pub number : IsOpnum opnum
  pub parameters : CanWriteParameters value
  pub validation : opnum ≡ 3 → value.validation ≡ 0

-- ---- NETLOGON_INTERACTIVE_INFO

-- the structure, and then the targets in the order of their pointers
unfoldable pub put_info : InteractiveInfo → Putting
put_info info =
    put_head (2 * length info.domain)
    >> put long info.control
    >> put_halves info.logon_id
    >> put_head (2 * length info.user)
    >> put_head (2 * length info.workstation)
    >> put (raw 16) info.lm
    >> put (raw 16) info.nt
    >> put_units info.domain
    >> put_units info.user
    >> put_units info.workstation

-- ---- the calls

-- the level, the same as the union's tag, and the arm's pointer with its target
unfoldable pub put_leveled_info : InteractiveInfo → Putting
put_leveled_info info = put short 1 >> put short 1 >> put pointer true >> put_info info

abbrev pub put_validation : (is_logon : Bool) → ℕ → Putting
put_validation true level = put short level
put_validation false level = keep

unfoldable pub put_interactive : Bool → InteractiveCall → Putting
put_interactive is_logon value =
    put_unique (put text) value.server
    >> put_unique (put text) value.computer
    >> put_unique put_authenticator value.authenticator
    >> put_unique put_authenticator value.returned
    >> put_leveled_info value.info
    >> put_validation is_logon value.validation

-- ---- the written form: the bytes of the whole stub of the call of that number

unfoldable pub written_interactive : ℕ → InteractiveCall → List ℕ
written_interactive opnum value = (put_interactive (is_logon opnum) value nothing).bytes
