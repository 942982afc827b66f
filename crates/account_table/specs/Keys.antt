-- The names of the values in the account table's document (this project's own choice).
use Rattle.std.specs.Prelude.{ℕ, List, codes}
use Rattle.account_table.specs.declared.key.Key.{Key}
use Rattle.account_table.specs.declared.key.Part.TheVariants as part
use Rattle.account_table.specs.declared.key.Word.{Word}
use Rattle.account_table.specs.declared.key.Word.TheVariants.{Domain, Sid, Lockout, Ntlmv2Only, User, Machine, Trust, Name, Rid, Hash, FullName, Group, Groups, Disabled, Locked, MustChange, Expires, PasswordSet, PasswordExpires, Workstations, ExtraSids, Kind, Controllers, Address}

abbrev pub word_text : Word → List ℕ
word_text Domain = codes "domain"
word_text Sid = codes "sid"
word_text Lockout = codes "lockout"
word_text Ntlmv2Only = codes "ntlmv2_only"
word_text User = codes "user"
word_text Machine = codes "machine"
word_text Trust = codes "trust"
word_text Name = codes "name"
word_text Rid = codes "rid"
word_text Hash = codes "hash"
word_text FullName = codes "full_name"
word_text Group = codes "group"
word_text Groups = codes "groups"
word_text Disabled = codes "disabled"
word_text Locked = codes "locked"
word_text MustChange = codes "must_change"
word_text Expires = codes "expires"
word_text PasswordSet = codes "password_set"
word_text PasswordExpires = codes "password_expires"
word_text Workstations = codes "workstations"
word_text ExtraSids = codes "extra_sids"
word_text Kind = codes "kind"
word_text Controllers = codes "controllers"
word_text Address = codes "address"

-- a value of the document itself, of a user, of a machine and of a trusted domain
abbrev pub top : Word → Key
top word = record { list = part.Top; entry = 0; word = word }

abbrev pub of_user : ℕ → Word → Key
of_user entry word = record { list = part.User; entry = entry; word = word }

abbrev pub of_machine : ℕ → Word → Key
of_machine entry word = record { list = part.Machine; entry = entry; word = word }

abbrev pub of_trust : ℕ → Word → Key
of_trust entry word = record { list = part.Trust; entry = entry; word = word }
