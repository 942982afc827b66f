-- Names in the bind of a channel that seals. It serves `text` and the law `bind_names_are_read`.
use Rattle.std.proofs.Common.{◌≡◌, ◌≢◌, ◌==◌, ◌<◌, ◌≤◌, ◌+◌, ◌++◌, ℕ, Bool, true, false, List, [], ◌∷◌, length, take, drop, get_or, Option, Some, None, refl, sym, ap, ap₂, ◌∙◌, ◌&&◌, nat_le, bytes_eq, length-append, append_assoc, append-nil, arith}
use Rattle.std.proofs.lemmas.List.{drop_all, drop_at, drop_more, take_at, take_more}
use Rattle.std.proofs.lemmas.Bool.{eq-eqb, le-leb, ne_eqb}
use Rattle.std.specs.List.{AllByRecursion}
use Rattle.channel_sealing.specs.Names.{BindNamesAreRead, Texts, bind_names_of, names_by, names_if, names_with, text_by, text_of}
use Rattle.channel_sealing.specs.Trailers.{bind_value_of}

-- bytes that aren't zero stand in front
abbrev pub behind_front : List ℕ → Option Texts → Option Texts
behind_front front None = None
behind_front front (Some text) = Some (front ++ text.0, text.1)

pub front_none : (found : Option Texts) → behind_front [] found ≡ found
front_none None = refl
front_none (Some text) = refl

front_more : (front : List ℕ) (byte : ℕ) (bytes : List ℕ) (later : Option Texts) → behind_front front (text_by false byte bytes later) ≡ behind_front (front ++ byte ∷ []) later
front_more front byte bytes None = refl
front_more front byte bytes (Some text) = ap (λ (all : List ℕ). Some (all, text.1)) (sym (append_assoc front (byte ∷ []) text.0))

-- the text goes on behind a byte that isn't zero
pub text_more : (bytes : List ℕ) (at : ℕ) → at < length bytes → (get_or bytes at 0 == 0) ≡ false →
    behind_front (take at bytes) (text_of (drop at bytes)) ≡ behind_front (take (at + 1) bytes) (text_of (drop (at + 1) bytes))
unfolding text_of
text_more bytes at within some =
    let byte : ℕ = get_or bytes at 0 in
    ap (λ (rest : List ℕ). behind_front (take at bytes) (text_of rest)) (drop_more bytes at 0 within)
    ∙ ap (λ (zero : Bool). behind_front (take at bytes) (text_by zero byte (drop (at + 1) bytes) (text_of (drop (at + 1) bytes)))) some
    ∙ front_more (take at bytes) byte (drop (at + 1) bytes) (text_of (drop (at + 1) bytes))
    ∙ ap (λ (front : List ℕ). behind_front front (text_of (drop (at + 1) bytes))) (sym (take_more bytes at 0 within))

-- a text ends at a zero
pub text_ends : (bytes : List ℕ) (at : ℕ) → at < length bytes → get_or bytes at 0 ≡ 0 →
    behind_front (take at bytes) (text_of (drop at bytes)) ≡ Some (take at bytes, drop (at + 1) bytes)
unfolding text_of
text_ends bytes at within zero =
    ap (λ (rest : List ℕ). behind_front (take at bytes) (text_of rest)) (drop_more bytes at 0 within)
    ∙ ap (λ (is : Bool). behind_front (take at bytes) (text_by is (get_or bytes at 0) (drop (at + 1) bytes) (text_of (drop (at + 1) bytes)))) (eq-eqb _ _ zero)
    ∙ ap (λ (front : List ℕ). Some (front, drop (at + 1) bytes)) (append-nil (take at bytes))

pub text_none : (bytes : List ℕ) (at : ℕ) → length bytes ≤ at → behind_front (take at bytes) (text_of (drop at bytes)) ≡ None
unfolding text_of
text_none bytes at past = ap (λ (rest : List ℕ). behind_front (take at bytes) (text_of rest)) (drop_all at bytes past)

pub ruleset texts = (front_none, text_more, text_ends, text_none)

-- ---- what is written is read

text_written : (text more : List ℕ) → AllByRecursion (λ (byte : ℕ). byte ≢ 0) text → text_of (text ++ 0 ∷ more) ≡ Some (text, more)
unfolding text_of
text_written [] more none = refl
text_written (byte ∷ text) more none =
    ap₂ (λ (zero : Bool) (later : Option Texts). text_by zero byte (text ++ 0 ∷ more) later) (ne_eqb byte 0 none.0) (text_written text more none.1)

names_written : (domain computer more : List ℕ) → AllByRecursion (λ (byte : ℕ). byte ≢ 0) domain → AllByRecursion (λ (byte : ℕ). byte ≢ 0) computer →
    names_by (text_of (domain ++ 0 ∷ (computer ++ 0 ∷ more))) ≡ Some (domain, computer)
names_written domain computer more one other =
    ap names_by (text_written domain (computer ++ 0 ∷ more) one) ∙ ap (names_with domain) (text_written computer more other)

-- two names, one behind the other
apart : (domain computer more : List ℕ) → ((domain ++ 0 ∷ []) ++ (computer ++ 0 ∷ [])) ++ more ≡ domain ++ 0 ∷ (computer ++ 0 ∷ more)
apart domain computer more =
    append_assoc (domain ++ 0 ∷ []) (computer ++ 0 ∷ []) more
    ∙ append_assoc domain (0 ∷ []) ((computer ++ 0 ∷ []) ++ more)
    ∙ ap (λ (rest : List ℕ). domain ++ 0 ∷ rest) (append_assoc computer (0 ∷ []) more)

abbrev first_eight : List ℕ
first_eight = 0 ∷ 0 ∷ 0 ∷ 0 ∷ 3 ∷ 0 ∷ 0 ∷ 0 ∷ []

behind_eight : (rest : List ℕ) → bind_names_of (first_eight ++ rest) ≡ names_by (text_of rest)
behind_eight rest =
    let long : nat_le 8 (length (first_eight ++ rest)) ≡ true = le-leb 8 (length (first_eight ++ rest)) (omega (arith, length-append first_eight rest)) in
    let same : bytes_eq (take 8 (first_eight ++ rest)) first_eight ≡ true = ap (λ (x : List ℕ). bytes_eq x first_eight) (take_at first_eight rest 8 refl) in
    ap₂ (λ (one other : Bool). names_if (one && other) (drop 8 (first_eight ++ rest))) long same ∙ ap (λ (x : List ℕ). names_by (text_of x)) (drop_at first_eight rest 8 refl)

read_so : (domain computer more : List ℕ) → AllByRecursion (λ (byte : ℕ). byte ≢ 0) domain → AllByRecursion (λ (byte : ℕ). byte ≢ 0) computer →
    bind_names_of (bind_value_of domain computer ++ more) ≡ Some (domain, computer)
read_so domain computer more one other =
    ap (λ (rest : List ℕ). bind_names_of (first_eight ++ rest)) (apart domain computer more)
    ∙ behind_eight (domain ++ 0 ∷ (computer ++ 0 ∷ more))
    ∙ names_written domain computer more one other

pub bind_names_are_read : BindNamesAreRead
bind_names_are_read = record { read = read_so }
