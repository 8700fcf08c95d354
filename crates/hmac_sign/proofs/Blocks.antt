-- The block of a key, and its pads.
use Rattle.std.proofs.Common.{◌≡◌, ℕ, ◌+◌, ◌-◌, ◌<◌, ◌≤◌, List, ◌++◌, Bool, true, false, cond, length, replicate, take, bit_xor, append_assoc, refl, ap, sym, ◌∙◌, subst, arith}
use Rattle.std.specs.Prelude.{nat_lt}
use Rattle.std.proofs.lemmas.Bool.{ltb-true, ltb-false}
use Rattle.std.proofs.lemmas.List.{length-append, length-replicate, append-nil, take-map, take-replicate}
use Rattle.std.proofs.Math.Seq.{take-append-add}
use Rattle.sha2.proofs.Facts256.{length-sha256}
use Rattle.sha2.proofs.Facts512.{length-sha384, length-sha512}
use Rattle.hmac_sign.specs.Algs.{hash_by, block_length}
use Rattle.hmac_sign.specs.CodeLengths.{code_length}
use Rattle.hmac_sign.specs.Hmac.{filled, key_block, xored, hmac}
use Rattle.hmac_sign.specs.declared.alg.Alg.{Alg}

-- the front of a block, each byte with the pad
pub xored_front : (n : ℕ) (block out : List ℕ) (pad : ℕ) → out ≡ xored block pad → take n out ≡ xored (take n block) pad
xored_front n block out pad is = ap (λ (bytes : List ℕ). take n bytes) is ∙ take-map (λ (byte : ℕ). bit_xor byte pad) n block

filled_whole : (size : ℕ) (block : List ℕ) → length block ≡ size → filled size block ≡ block
filled_whole size block whole =
    let none : size - length block ≡ 0 = omega arith in
    rw none (append-nil block)

length-filled : (size : ℕ) (key : List ℕ) → length key ≤ size → length (filled size key) ≡ size
length-filled size key fits = length-append key (replicate (size - length key) 0) ∙ omega (arith, length-replicate {A = ℕ} (size - length key) 0)

-- the front of a key that is filled
filled_front : (n size : ℕ) (key : List ℕ) → length key ≤ n → n ≤ size → take n (filled size key) ≡ filled n key
filled_front n size key fits le =
    let sum : length key + (n - length key) ≡ n = omega arith in
    let front = take-append-add key (replicate (size - length key) 0) (n - length key) in
    let zeros = take-replicate (n - length key) (size - length key) 0 (omega arith) in
    subst (λ m. take m (filled size key) ≡ filled n key) sum (front ∙ ap (λ (rest : List ℕ). key ++ rest) zeros)

pub length-hash_by : (alg : Alg) (text : List ℕ) → length (hash_by alg text) ≡ code_length alg
length-hash_by Alg.Hs256 text = length-sha256 text
length-hash_by Alg.Hs384 text = length-sha384 text
length-hash_by Alg.Hs512 text = length-sha512 text

code_fits : (alg : Alg) → code_length alg ≤ block_length alg
code_fits Alg.Hs256 = omega arith
code_fits Alg.Hs384 = omega arith
code_fits Alg.Hs512 = omega arith

pub block_fits : (alg : Alg) → block_length alg ≤ 128
block_fits Alg.Hs256 = omega arith
block_fits Alg.Hs384 = omega arith
block_fits Alg.Hs512 = omega arith

hash_fits : (alg : Alg) (key : List ℕ) → length (hash_by alg key) ≤ block_length alg
hash_fits alg key = omega (arith, length-hash_by alg key, code_fits alg)

hashed_fits : (longer : Bool) (alg : Alg) (key : List ℕ) → nat_lt (block_length alg) (length key) ≡ longer → length (cond longer (hash_by alg key) key) ≤ block_length alg
hashed_fits true alg key e = hash_fits alg key
hashed_fits false alg key e = omega (arith, ltb-false (block_length alg) (length key) e)

pub length-key_block : (alg : Alg) (key : List ℕ) → length (key_block alg key) ≡ block_length alg
length-key_block alg key = length-filled (block_length alg) _ (hashed_fits (nat_lt (block_length alg) (length key)) alg key refl)

-- the front of what is filled to the most bytes of a block
block_of : (longer : Bool) (alg : Alg) (key out : List ℕ) → nat_lt (block_length alg) (length key) ≡ longer → out ≡ filled 128 (cond longer (hash_by alg key) key) → take (block_length alg) out ≡ key_block alg key
block_of longer alg key out e is =
    let fits = hashed_fits longer alg key e in
    rw (is, e) (filled_front (block_length alg) 128 (cond longer (hash_by alg key) key) fits (block_fits alg))

longer_is : (longer : Bool) (n m : ℕ) → nat_lt n m ≡ longer → n < m → longer ≡ true
longer_is true n m e lt = refl
longer_is false n m e lt = absurd (omega (arith, lt, ltb-false n m e))

shorter_is : (longer : Bool) (n m : ℕ) → nat_lt n m ≡ longer → m ≤ n → longer ≡ false
shorter_is true n m e le = absurd (omega (arith, le, ltb-true n m e))
shorter_is false n m e le = refl

-- of a key that is longer than a block, and of one that is not
pub long_block : (alg : Alg) (key out : List ℕ) → block_length alg < length key → out ≡ filled 128 (hash_by alg key) → take (block_length alg) out ≡ key_block alg key
long_block alg key out lt is = block_of true alg key out (longer_is (nat_lt (block_length alg) (length key)) (block_length alg) (length key) refl lt) is

pub short_block : (alg : Alg) (key out : List ℕ) → length key ≤ block_length alg → out ≡ filled 128 key → take (block_length alg) out ≡ key_block alg key
short_block alg key out le is = block_of false alg key out (shorter_is (nat_lt (block_length alg) (length key)) (block_length alg) (length key) refl le) is

not_longer : (longer : Bool) (alg : Alg) (block : List ℕ) → nat_lt (block_length alg) (length block) ≡ longer → length block ≡ block_length alg → cond longer (hash_by alg block) block ≡ block
not_longer true alg block e whole = absurd (omega (arith, whole, ltb-true (block_length alg) (length block) e))
not_longer false alg block e whole = refl

-- a key of one block is its own block
pub key_block-whole : (alg : Alg) (block : List ℕ) → length block ≡ block_length alg → key_block alg block ≡ block
key_block-whole alg block whole =
    ap (filled (block_length alg)) (not_longer (nat_lt (block_length alg) (length block)) alg block refl whole) ∙ filled_whole (block_length alg) block whole

-- a key and its block give one HMAC
pub one_key : (alg : Alg) (key text : List ℕ) → hmac alg (key_block alg key) text ≡ hmac alg key text
one_key alg key text = rw (key_block-whole alg (key_block alg key) (length-key_block alg key)) refl

-- the HMAC under a block, of a text in three pieces
pub of_block : (alg : Alg) (block head dot body inner code : List ℕ) → length block ≡ block_length alg → inner ≡ hash_by alg (((xored block 0x36 ++ head) ++ dot) ++ body) → code ≡ hash_by alg (xored block 0x5c ++ inner) → code ≡ hmac alg block (head ++ (dot ++ body))
of_block alg block head dot body inner code whole inner_is code_is =
    let pieces : ((xored block 0x36 ++ head) ++ dot) ++ body ≡ xored block 0x36 ++ (head ++ (dot ++ body)) = append_assoc (xored block 0x36 ++ head) dot body ∙ append_assoc (xored block 0x36) head (dot ++ body) in
    code_is ∙ (ap (λ (m : List ℕ). hash_by alg (xored block 0x5c ++ m)) (inner_is ∙ ap (hash_by alg) pieces) ∙ ap (λ (b : List ℕ). hash_by alg (xored b 0x5c ++ hash_by alg (xored b 0x36 ++ (head ++ (dot ++ body))))) (sym (key_block-whole alg block whole)))
