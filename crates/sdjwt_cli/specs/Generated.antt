-- The order that `gen` issues, what it asks a holder for, and the policy under
-- which it verifies; each of a number of members.
use Rattle.std.specs.Prelude.{ℕ, zero, suc, ◌%◌, ◌==◌, pos, List, [], ◌∷◌, ◌++◌, Option, None, Some, codes, bytes_eq, replicate, if◌then◌else◌}
use Rattle.std.specs.Fmt.{decimal}
use Rattle.sd_outside.specs.Limits.{seed_len, key_min, members_max}
use Rattle.claim_tree.specs.Tree.{Text, Tree, leaf, whole, array, object, no_elements, element, Members, no_members, member, inserted}
use Rattle.disclosure.specs.declared.digests.HashAlg.{HashAlg}
use Rattle.hmac_sign.specs.Hmac.{AlgKey, alg_key}
use Rattle.hmac_sign.specs.declared.alg.Alg.{Alg}
use Rattle.hmac_sign.specs.declared.key_set.NamedKey.{NamedKey}
use Rattle.marked_tree.specs.Paths.{Path}
use Rattle.issuer_core.specs.Order.{Order}
use Rattle.issuer_core.specs.declared.order.Decoy.{Decoy}
use Rattle.holder_core.specs.declared.ask.Ask.{Ask}
use Rattle.verifier_core.specs.declared.policy.Policy.{Policy}

-- ---- the number

-- the number up to the given one, and not 0, whose decimal digits the word is
abbrev pub number_up_to : ℕ → List ℕ → Option ℕ
number_up_to zero word = None
number_up_to (suc n) word =
    if bytes_eq (decimal (suc n)) word then Some (suc n) else number_up_to n word

-- from 1 to the most members
unfoldable pub count_of : List ℕ → Option ℕ
count_of word = number_up_to members_max word

-- ---- the order

abbrev pub number : ℕ → Tree
number i = leaf (whole (pos i))

abbrev pub member_name : ℕ → Text
member_name i = codes "m" ++ decimal i

-- {"a":i,"b":[i,i+1]}
abbrev pub member_value : ℕ → Tree
member_value i =
    object
    (member (codes "a") (number i)
    (member (codes "b") (array (element (number i) (element (number (suc i)) no_elements)))
    no_members))

-- the members with the numbers below n
abbrev pub members_below : ℕ → Members
members_below zero = no_members
members_below (suc i) = inserted (members_below i) (member_name i) (member_value i)

-- a path from each member whose number is below n and a multiple of k: to the
-- member, and from there on
abbrev pub paths_below : ℕ → Path → ℕ → List Path
paths_below k inside zero = []
paths_below k inside (suc i) =
    paths_below k inside i ++ (if i % k == 0 then (member_name i ∷ inside) ∷ [] else [])

abbrev pub to_a : Path
to_a = codes "a" ∷ []

-- to the second element of `b`
abbrev pub to_second : Path
to_second = codes "b" ∷ codes "1" ∷ []

-- hidden is each second member, of each third `a`, and of each fifth the second element of `b`
abbrev pub hidden_below : ℕ → List Path
hidden_below n = (paths_below 2 [] n ++ paths_below 3 to_a n) ++ paths_below 5 to_second n

abbrev pub one_decoy : List Decoy
one_decoy = record { at = []; count = 1 } ∷ []

-- with one decoy at the root
abbrev pub generated : ℕ → Order
generated n = record {
  payload = object (members_below n);
  hide = hidden_below n;
  decoys = one_decoy;
  kid = None;
  typ = None;
  hash = HashAlg.Sha256;
}

-- ---- who signs, asks and verifies

abbrev pub generated_seed : List ℕ
generated_seed = replicate seed_len 0

abbrev pub generated_key : AlgKey
generated_key = alg_key Alg.Hs256 (replicate key_min 1)

abbrev pub generated_keys : List NamedKey
generated_keys = record { kid = None; hs256 = generated_key.block; hs384 = None; hs512 = None } ∷ []

-- wanted is of each fourth member `a`, without key binding
abbrev pub generated_ask : ℕ → Ask
generated_ask n = record { keys = generated_keys; want = paths_below 4 to_a n; binding = None }

abbrev pub generated_policy : Policy
generated_policy = record {
  keys = generated_keys;
  algs = codes "HS256" ∷ [];
  typ = None;
  iss = None;
  require = [];
  skew = 0;
  binding = None;
}
