-- How many bytes the stub of a reply has at most (MS-NRPC 3.5.4.5.1, 2.2.1.4.14; NDR is C706 14). An item takes as many
-- bytes as it has, and before them padding to a multiple of its size.
use Rattle.std.specs.Prelude.{ℕ, ◌+◌, ◌*◌}

-- numbers of 4 and of 2 bytes; a referent, which says whether what it points to is there, is one of 4
abbrev pub long_most : ℕ
long_most = 3 + 4

abbrev pub short_most : ℕ
short_most = 3 + 2

-- a text's place in a structure: its length and its size in bytes, and a referent
abbrev pub text_head_most : ℕ
text_head_most = short_most + short_most + long_most

-- a text, behind the structure: how many units there is room for, from which on and how many there are; and at most
-- 32,767 units
abbrev pub text_most : ℕ
text_most = 3 + 3 * 4 + 2 * 32767

-- an array's head in a structure: how many items there are, and a referent
abbrev pub array_head_most : ℕ
array_head_most = long_most + long_most

-- the array of at most 256 groups, each an identifier and its attributes, behind their count
abbrev pub groups_most : ℕ
groups_most = long_most + 256 * (long_most + long_most)

-- a security identifier: how many parts there are, at most 15, then its revision, their count again, its authority of 6
-- bytes, and its parts
abbrev pub sid_most : ℕ
sid_most = long_most + (1 + 1 + 6 + 15 * 4)

-- the array of at most 256 further identifiers: referents and attributes, behind their count, and then each
abbrev pub extra_most : ℕ
extra_most = long_most + 256 * (long_most + long_most + sid_most)

-- what is granted: six moments, each of two numbers of 4 bytes; eight texts, of which two are the server's and the
-- domain's; two counts; the user and its group; the heads of both arrays; the flags; a key of 16 bytes; the domain's
-- identifier; and ten reserved numbers
abbrev pub granted_most : ℕ
granted_most =
    6 * (long_most + long_most)
    + 8 * (text_head_most + text_most)
    + 2 * short_most
    + 2 * long_most
    + array_head_most + groups_most
    + long_most
    + 16
    + long_most + sid_most
    + 10 * long_most
    + array_head_most + extra_most

-- the stub of a reply: the authenticator that is returned, of 8 bytes and a number, behind a referent; the level; what
-- is granted, behind a referent; whether it is authoritative; and the status
abbrev pub stub_limit : ℕ
stub_limit = (long_most + 8 + long_most) + short_most + (long_most + granted_most) + 1 + long_most
