use Rattle.std.proofs.Common.{◌≡◌, ◌∙◌, List, Bool, ap, sym, map, reverse, refl, [], ◌∷◌, ◌++◌}
use Rattle.std.proofs.lemmas.List.{reverse-append, map-append}
use Rattle.des_cipher.specs.Bits.{bits_of, bytes_of}
use Rattle.des_cipher.specs.Cipher.{cipher}
use Rattle.des_cipher.specs.Des.{des_of, des_back_of, spread_of}
use Rattle.des_cipher.specs.Schedule.{round_keys}
use Rattle.des_cipher.proofs.DesLaws.{des_back_of-des_of, des_of-des_back_of}
use Rattle.des_cipher.specs.Words.{round_key_bits}
use Rattle.des_cipher.specs.declared.word_schedule.RoundKey.{RoundKey}
use Rattle.des_cipher.proofs.des.Schedule.back.Goals as goal

map-reverse : (f : RoundKey → List Bool) (xs : List RoundKey) → map f (reverse xs) ≡ reverse (map f xs)
map-reverse f [] = refl
map-reverse f (x ∷ xs) =
    ap (map f) (reverse-append (x ∷ []) xs) ∙ map-append f (reverse xs) (x ∷ []) ∙ ap (λ z. z ++ f x ∷ []) (map-reverse f xs) ∙ sym (reverse-append (f x ∷ []) (map f xs))

pub returns-clause-value : goal.returns-clause-value
unfolding des_back_of
returns-clause-value c =
    let keys = c.self.inside.keys in
    let turned : map round_key_bits c.backward.result ≡ reverse (round_keys (bits_of (spread_of c.self.inside.key))) =
    ap (map round_key_bits) c.backward.ensures ∙ map-reverse round_key_bits keys ∙ ap reverse c.self.invariant in
    c.encipher_bytes.ensures.value
    ∙ ap (λ ks. bytes_of (cipher ks (bits_of c.args.block))) turned
    ∙ ap (λ k. des_back_of (spread_of k) c.args.block) c.self.view_is

pub returns-clause-undoes : goal.returns-clause-undoes
returns-clause-undoes c plain h = des_back_of-des_of (spread_of c.args.self.now) plain h

pub returns-clause-undone : goal.returns-clause-undone
returns-clause-undone c =
    ap (des_of (spread_of c.args.self.now)) (returns-clause-value c) ∙ des_of-des_back_of (spread_of c.args.self.now) c.args.block c.encipher_bytes.ensures.is_block
