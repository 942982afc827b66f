-- What crates above may use of `cred_of`: it and its inverse undo each other on blocks of 8 bytes, so it is one to one.
use Rattle.std.proofs.Common.{◌≡◌, ℕ, List, take, drop, ap, sym, ◌∙◌}
use Rattle.des_cipher.specs.Des.{des_of, des_back_of, spread_of, IsBlock}
use Rattle.des_cipher.proofs.DesLaws.{IsBlock-des_of, IsBlock-des_back_of, des_back_of-des_of, des_of-des_back_of}
use Rattle.channel_keys.specs.Credentials.{cred_of, cred_back_of}

pub IsBlock-cred_of : (key input : List ℕ) → IsBlock (cred_of key input)
unfolding cred_of
IsBlock-cred_of key input = IsBlock-des_of _ _

pub IsBlock-cred_back_of : (key output : List ℕ) → IsBlock (cred_back_of key output)
unfolding cred_back_of
IsBlock-cred_back_of key output = IsBlock-des_back_of _ _

pub cred_back_of-cred_of : (key input : List ℕ) → IsBlock input → cred_back_of key (cred_of key input) ≡ input
unfolding cred_of cred_back_of
cred_back_of-cred_of key input h =
    let first = spread_of (take 7 key) in
    let second = spread_of (take 7 (drop 7 key)) in
    ap (des_back_of first) (des_back_of-des_of second (des_of first input) (IsBlock-des_of first input))
    ∙ des_back_of-des_of first input h

pub cred_of-cred_back_of : (key output : List ℕ) → IsBlock output → cred_of key (cred_back_of key output) ≡ output
unfolding cred_of cred_back_of
cred_of-cred_back_of key output h =
    let first = spread_of (take 7 key) in
    let second = spread_of (take 7 (drop 7 key)) in
    ap (des_of second) (des_of-des_back_of first (des_back_of second output) (IsBlock-des_back_of second output))
    ∙ des_of-des_back_of second output h

-- two blocks with one credential are one block
pub cred_of-one_to_one : (key x y : List ℕ) → IsBlock x → IsBlock y → cred_of key x ≡ cred_of key y → x ≡ y
cred_of-one_to_one key x y hx hy e =
    sym (cred_back_of-cred_of key x hx) ∙ ap (cred_back_of key) e ∙ cred_back_of-cred_of key y hy
