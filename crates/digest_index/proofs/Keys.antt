-- The keys of the set beside their texts.
use Rattle.std.proofs.Common.{◌≡◌, ◌⊎◌, inl, inr, suc, ◌+◌, ◌<◌, ◌≤◌, nat_lt, Bool, true, false, cond, not, ◌||◌, List, [], ◌∷◌, ◌++◌, map, length, None, Some, Result, Ok, Err, refl, sym, ap, subst, ◌∙◌, arith}
use Rattle.std.specs.Prelude.{bytes_eq, OnErr, option_map, position, if◌then◌else◌}
use Rattle.std.specs.List.{position_or_len, list_any, IsDistinct}
use Rattle.std.specs.Borrow.{Bor}
use Rattle.std.proofs.lemmas.Bool.{cases_lt, lt-ltb, le-ltb}
use Rattle.indexmap.specs.IndexSet.{insert_key}
use Rattle.digest_index.specs.Index.{Text, position_of, position_or_end, interned}
use Rattle.digest_index.proofs.Positions.{position_or_end-within, position_of-there, position_of-new}
use Rattle.digest_index.proofs.Interned.{IsDistinct-interned}

abbrev pub Key : Type 0
Key = Bor Text

abbrev texts : List Key → List Text
texts ks = map (λ k. k.now) ks

-- a key has the text
abbrev holds : Text → Key → Bool
holds t k = bytes_eq t k.now

-- two keys have one text
abbrev same : Key → Key → Bool
same key k = holds key.now k

length-texts : (ks : List Key) → length (texts ks) ≡ length ks
length-texts [] = refl
length-texts (k ∷ ks) = ap suc (length-texts ks)

pub position_or_end-texts : (t : Text) (ks : List Key) → position_or_len (holds t) ks ≡ position_or_end t (texts ks)
position_or_end-texts t [] = refl
position_or_end-texts t (k ∷ ks) = go (holds t k) (position_or_end-texts t ks)
  where
    go : (b : Bool) → position_or_len (holds t) ks ≡ position_or_end t (texts ks) → cond (not b) (1 + position_or_len (holds t) ks) 0 ≡ cond b 0 (suc (position_or_end t (texts ks)))
    go true ih = refl
    go false ih = omega (arith, ih)

pub position_of-texts : (t : Text) (ks : List Key) → position (holds t) ks ≡ position_of t (texts ks)
position_of-texts t ks = rw (position_or_end-texts t ks, ← length-texts ks) (go (cases_lt (position_or_end t (texts ks)) (length (texts ks))))
  where
    go : (position_or_end t (texts ks) < length (texts ks)) ⊎ (length (texts ks) ≤ position_or_end t (texts ks))
        → cond (nat_lt (position_or_end t (texts ks)) (length (texts ks))) (Some (position_or_end t (texts ks))) None ≡ position_of t (texts ks)
    go (inl w) = rw (lt-ltb (position_or_end t (texts ks)) (length (texts ks)) w) (sym (position_of-there t (texts ks) w))
    go (inr w) = rw (le-ltb (position_or_end t (texts ks)) (length (texts ks)) w) (sym (position_of-new t (texts ks) (omega (arith, w, position_or_end-within t (texts ks)))))

pub interned-texts : (key : Key) (ks : List Key) → texts (if list_any (same key) ks then ks else ks ++ key ∷ []) ≡ interned key.now (texts ks)
interned-texts key [] = refl
interned-texts key (k ∷ ks) = go (holds key.now k) (list_any (same key) ks) (interned-texts key ks)
  where
    go : (b c : Bool) → texts (cond c ks (ks ++ key ∷ [])) ≡ interned key.now (texts ks)
        → texts (cond (b || c) (k ∷ ks) (k ∷ (ks ++ key ∷ []))) ≡ cond b (texts (k ∷ ks)) (k.now ∷ interned key.now (texts ks))
    go true c ih = refl
    go false true ih = ap (λ (ts : List Text). k.now ∷ ts) ih
    go false false ih = ap (λ (ts : List Text). k.now ∷ ts) ih

-- a key is inserted as its text is interned
pub inserted-texts : (key : Key) (ks new : List Key) → new ≡ insert_key same ks key → texts new ≡ interned key.now (texts ks)
inserted-texts key ks new inserts = ap texts inserts ∙ interned-texts key ks

-- what holds anyhow holds at an error
pub at_err : {A E P : Type 0} (r : Result A E) → P → OnErr r P
at_err (Ok x) p = tt
at_err (Err e) p = p

-- a key that is not there
pub absent-text : (key : Key) (ks : List Key) → list_any (same key) ks ≡ false → position_of key.now (texts ks) ≡ None
absent-text key [] h = refl
absent-text key (k ∷ ks) h = go (same key k) h (absent-text key ks)
  where
    go : (b : Bool) → (b || list_any (same key) ks) ≡ false → (list_any (same key) ks ≡ false → position_of key.now (texts ks) ≡ None)
        → cond b (Some 0) (option_map suc (position_of key.now (texts ks))) ≡ None
    go true h ih = cc
    go false h ih = ap (option_map suc) (ih h)

pub distinct-none : (ks : List Key) → ks ≡ [] → IsDistinct bytes_eq (texts ks)
unfolding IsDistinct
distinct-none ks e = subst (λ (ls : List Key). IsDistinct bytes_eq (texts ls)) (sym e) tt

pub distinct-inserted : (key : Key) (ks new : List Key) → new ≡ insert_key same ks key → IsDistinct bytes_eq (texts ks) → IsDistinct bytes_eq (texts new)
distinct-inserted key ks new inserts d = subst (IsDistinct bytes_eq) (sym (inserted-texts key ks new inserts)) (IsDistinct-interned key.now (texts ks) d)
