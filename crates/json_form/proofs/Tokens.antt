-- A text has one token, or is refused by one fault.
use Rattle.std.proofs.Common.{◌≡◌, ℕ, ◌<◌, ◌≤◌, ◌||◌, Bool, true, false, List, length, inl, inr, refl, sym, ap, subst, ◌∙◌, arith}
use Rattle.std.specs.Prelude.{◌&&◌, not, nat_lt}
use Rattle.std.proofs.lemmas.Bool.{lt-ltb, le-ltb}
use Rattle.claim_tree.specs.Tree.{Members, no_members}
use Rattle.sd_outside.specs.Limits.{file_max, compact_max}
use Rattle.refusals.specs.declared.condition.Condition.{Condition}
use Rattle.refusals.specs.Faults.{fault_number, fault_at, placed, unplaced}
use Rattle.refusals.specs.Condition.{number_of}
use Rattle.refusals.specs.declared.fault.Fault.{Fault}
use Rattle.refusals.specs.declared.fault.Place.{Place}
use Rattle.refusals.specs.declared.fault.Place.TheVariants.{Nowhere, At, Json}
use Rattle.refusals.specs.declared.fault.JsonPlace.{JsonPlace}
use Rattle.compact_form.specs.declared.parts.Parts.{Parts}
use Rattle.compact_form.specs.Compact.{compact, IsCompact}
use Rattle.compact_form.specs.Trim.{trimmed, is_json, is_too_long}
use Rattle.compact_form.specs.CompactToken as plain
use Rattle.compact_form.proofs.Unique.{one_spelling, one_stop}
use Rattle.compact_form.proofs.Verdicts.{clash}
use Rattle.json_form.specs.declared.token.Token.{Token}
use Rattle.json_form.specs.Alone.{alone}
use Rattle.json_form.specs.declared.token.TokenError.{TokenError}
use Rattle.json_form.specs.declared.json_error.JsonFormError.{JsonFormError}
use Rattle.json_form.specs.MembersRead.{misformed}
use Rattle.json_form.specs.Json.{IsJson}
use Rattle.json_form.specs.JsonPlaces.{IsJsonPlace}
use Rattle.json_form.specs.Token.{Spells, spells_compact, spells_json, IsMisformed, no_compact, no_json, IsTooMuch, TextFails, too_long, form, too_much, IsTextRefused, IsToken}
use Rattle.json_form.proofs.OneForm.{one_json, no_fault, one_fault}

number : (fault : Fault) (c : Condition) (place : Place) → fault ≡ fault_at c place → fault.number ≡ number_of c
number fault c place is = ap fault_number is

-- ---- one token

made : (t u : Token) → t.parts ≡ u.parts → t.outer ≡ u.outer → t ≡ u
made t u parts outer =
    let token : Parts → Members → Token = λ p m. record { parts = p; outer = m } in
    ap (λ p. token p t.outer) parts ∙ ap (λ m. token u.parts m) outer

pub one_spelled : (text : List ℕ) (t u : Token) → Spells text t → Spells text u → t ≡ u
one_spelled text t u (spells_compact plainly is none) (spells_compact again was nothing) = made t u (one_spelling t.parts u.parts text is was) (none ∙ sym nothing)
one_spelled text t u (spells_compact plainly is none) (spells_json json was) = absurd (clash (is_json text) json plainly)
one_spelled text t u (spells_json json is) (spells_compact plainly was none) = absurd (clash (is_json text) json plainly)
one_spelled text t u (spells_json json is) (spells_json again was) = one_json text t u is was

pub one : (text : List ℕ) (token other : Token) → IsToken text token → IsToken text other → token ≡ other
one text token other h k = one_spelled (trimmed text) token other h.spells k.spells

pub not_both : (text : List ℕ) (token : Token) (fault : Fault) → IsToken text token → IsTextRefused text fault → ⊥
not_both text token fault h refused = h.passes fault refused.applies

-- what a model shows is what is read
pub seen : (text : List ℕ) (view token : Token) → view ≡ token → IsToken text token → IsToken text view
seen text view token same is = subst (IsToken text) (sym same) is

-- ---- one fault

pub spelled_well : (text : List ℕ) (t : Token) (place : Place) → Spells text t → IsMisformed text place → ⊥
spelled_well text t place (spells_compact plainly is none) (no_compact stop again refused at) = refused.no_parts t.parts is
spelled_well text t place (spells_compact plainly is none) (no_json at json fault named) = clash (is_json text) json plainly
spelled_well text t place (spells_json json is) (no_compact stop plainly refused at) = clash (is_json text) json plainly
spelled_well text t place (spells_json json is) (no_json at again fault named) = no_fault text t at is fault.applies

pub one_place : (text : List ℕ) (p q : Place) → IsMisformed text p → IsMisformed text q → p ≡ q
one_place text p q (no_compact stop plainly refused at) (no_compact other again as_well was) = at ∙ ap At (one_stop text stop other refused.longest as_well.longest) ∙ sym was
one_place text p q (no_compact stop plainly refused at) (no_json there json fault named) = absurd (clash (is_json text) json plainly)
one_place text p q (no_json there json fault named) (no_compact stop plainly refused at) = absurd (clash (is_json text) json plainly)
one_place text p q (no_json there json fault named) (no_json here again found was) = named ∙ ap Json (one_fault text there here fault found) ∙ sym was

same_number : (text : List ℕ) (f g : Fault) → TextFails text f → TextFails text g → f.number ≡ g.number → f ≡ g
same_number text f g (too_long e h) (too_long d k) n = e ∙ sym d
same_number text f g (too_long e h) (form q d k) n = absurd (omega (arith, n, number f Condition.TooLong Nowhere e, number g Condition.Form q d))
same_number text f g (too_long e h) (too_much u d k l) n = absurd (omega (arith, n, number f Condition.TooLong Nowhere e, number g Condition.TooMuch Nowhere d))
same_number text f g (form p e h) (too_long d k) n = absurd (omega (arith, n, number f Condition.Form p e, number g Condition.TooLong Nowhere d))
same_number text f g (form p e h) (form q d k) n = e ∙ ap (fault_at Condition.Form) (one_place (trimmed text) p q h k) ∙ sym d
same_number text f g (form p e h) (too_much u d k l) n = absurd (omega (arith, n, number f Condition.Form p e, number g Condition.TooMuch Nowhere d))
same_number text f g (too_much t e h i) (too_long d k) n = absurd (omega (arith, n, number f Condition.TooMuch Nowhere e, number g Condition.TooLong Nowhere d))
same_number text f g (too_much t e h i) (form q d k) n = absurd (omega (arith, n, number f Condition.TooMuch Nowhere e, number g Condition.Form q d))
same_number text f g (too_much t e h i) (too_much u d k l) n = e ∙ sym d

pub one_refusal : (text : List ℕ) (f g : Fault) → IsTextRefused text f → IsTextRefused text g → f ≡ g
one_refusal text f g h k = same_number text f g h.applies k.applies (let a = h.lowest g k.applies in let b = k.lowest f h.applies in omega (arith, a, b))

-- ---- a compact text is refused as ever

to_either : (text : List ℕ) (fault : Fault) → is_json (trimmed text) ≡ false → plain.CompactFails text fault → TextFails text fault
to_either text fault plainly (plain.too_long is long) = too_long is long
to_either text fault plainly (plain.form stop is refused) = form (At stop) is (no_compact stop plainly refused refl)
to_either text fault plainly (plain.too_much parts is spelled many) = too_much (alone parts) is (spells_compact plainly spelled refl) (inl many)

-- a condition that fails as it did, with no greater number
record FailsPlainly (text : List ℕ) (fault : Fault) : Type 0 where
  plain_fault : Fault
  fails : plain.CompactFails text plain_fault
  lower : plain_fault.number ≤ fault.number

or_true : (a b c : Bool) → b ≡ false → c ≡ true → (a || (not b && c)) ≡ true
or_true true b c p q = refl
or_true false b c p q = rw (p, q) refl

long_text : (text : List ℕ) (parts : Parts) → is_json (trimmed text) ≡ false → IsCompact parts (trimmed text) → compact_max < length (compact parts) → is_too_long text ≡ true
long_text text parts plainly spelled long =
    let over : compact_max < length (trimmed text) = omega (arith, long, ap length spelled.spelling) in
    or_true (nat_lt file_max (length text)) (is_json (trimmed text)) (nat_lt compact_max (length (trimmed text))) plainly (lt-ltb compact_max (length (trimmed text)) over)

from_either : (text : List ℕ) (fault : Fault) → is_json (trimmed text) ≡ false → TextFails text fault → FailsPlainly text fault
from_either text fault plainly (too_long is long) = record { plain_fault = fault; fails = plain.too_long is long; lower = omega arith }
from_either text fault plainly (form place is (no_compact stop again refused at)) =
    record { plain_fault = placed Condition.Form stop; fails = plain.form stop refl refused; lower = omega (arith, number fault Condition.Form place is) }
from_either text fault plainly (form place is (no_json at json refused named)) = absurd (clash (is_json (trimmed text)) json plainly)
from_either text fault plainly (too_much t is (spells_compact again spelled none) (inl many)) =
    record { plain_fault = fault; fails = plain.too_much t.parts is spelled many; lower = omega arith }
from_either text fault plainly (too_much t is (spells_compact again spelled none) (inr long)) =
    record {
      plain_fault = unplaced Condition.TooLong;
      fails = plain.too_long refl (long_text text t.parts plainly spelled long);
      lower = omega (arith, number fault Condition.TooMuch Nowhere is);
    }
from_either text fault plainly (too_much t is (spells_json json spelled) much) = absurd (clash (is_json (trimmed text)) json plainly)

pub refused_plainly : (text : List ℕ) (fault : Fault) → is_json (trimmed text) ≡ false → plain.IsCompactRefused text fault → IsTextRefused text fault
refused_plainly text fault plainly refused =
    record {
      applies = to_either text fault plainly refused.applies;
      lowest = λ other fails. let p = from_either text other plainly fails in let low = refused.lowest p.plain_fault p.fails in omega (arith, low, p.lower);
    }

pub read_plainly : (text : List ℕ) (token : Token) → is_json (trimmed text) ≡ false → plain.ReadsCompact text token.parts → token.outer ≡ no_members → IsToken text token
read_plainly text token plainly reads none =
    record {
      spells = spells_compact plainly reads.spelling none;
      passes = λ fault fails. let p = from_either text fault plainly fails in reads.passes p.plain_fault p.fails;
    }

-- ---- a JSON text

pub short_text : (text : List ℕ) → is_json (trimmed text) ≡ true → length text ≤ file_max → is_too_long text ≡ false
short_text text json short = rw (json, le-ltb file_max (length text) short) refl

long_json : (text : List ℕ) → file_max < length text → is_too_long text ≡ true
long_json text long = rw (lt-ltb file_max (length text) long) refl

pub refused_long : (text : List ℕ) (fault : Fault) → fault ≡ unplaced Condition.TooLong → file_max < length text → IsTextRefused text fault
refused_long text fault is long = record { applies = too_long is (long_json text long); lowest = go }
  where
    go : (other : Fault) → TextFails text other → fault.number ≤ other.number
    go other (too_long e h) = omega (arith, number fault Condition.TooLong Nowhere is, number other Condition.TooLong Nowhere e)
    go other (form p e h) = omega (arith, number fault Condition.TooLong Nowhere is, number other Condition.Form p e)
    go other (too_much t e h i) = omega (arith, number fault Condition.TooLong Nowhere is, number other Condition.TooMuch Nowhere e)

pub refused_form : (text : List ℕ) (fault : Fault) (place : JsonPlace) → fault ≡ fault_at Condition.Form (Json place) → is_json (trimmed text) ≡ true → length text ≤ file_max → IsJsonPlace (trimmed text) place → IsTextRefused text fault
refused_form text fault place is json short misformed = record { applies = form (Json place) is (no_json place json misformed refl); lowest = go }
  where
    go : (other : Fault) → TextFails text other → fault.number ≤ other.number
    go other (too_long e h) = absurd (clash (is_too_long text) h (short_text text json short))
    go other (form p e h) = omega (arith, number fault Condition.Form (Json place) is, number other Condition.Form p e)
    go other (too_much t e h i) = omega (arith, number fault Condition.Form (Json place) is, number other Condition.TooMuch Nowhere e)

pub refused_much : (text : List ℕ) (fault : Fault) (token : Token) → fault ≡ unplaced Condition.TooMuch → is_json (trimmed text) ≡ true → length text ≤ file_max → IsJson token (trimmed text) → IsTooMuch token.parts
    → IsTextRefused text fault
refused_much text fault token is json short said much = record { applies = too_much token is (spells_json json said) much; lowest = go }
  where
    go : (other : Fault) → TextFails text other → fault.number ≤ other.number
    go other (too_long e h) = absurd (clash (is_too_long text) h (short_text text json short))
    go other (form p e h) = absurd (spelled_well (trimmed text) token p (spells_json json said) h)
    go other (too_much t e h i) = omega (arith, number fault Condition.TooMuch Nowhere is, number other Condition.TooMuch Nowhere e)

pub read_json : (text : List ℕ) (token : Token) → is_json (trimmed text) ≡ true → length text ≤ file_max → IsJson token (trimmed text) → (IsTooMuch token.parts → ⊥) → IsToken text token
read_json text token json short said few = record { spells = spells_json json said; passes = go }
  where
    go : (other : Fault) → TextFails text other → ⊥
    go other (too_long e h) = clash (is_too_long text) h (short_text text json short)
    go other (form p e h) = spelled_well (trimmed text) token p (spells_json json said) h
    go other (too_much t e h i) = few (subst (λ (u : Token). IsTooMuch u.parts) (one_spelled (trimmed text) t token h (spells_json json said)) i)

-- ---- answers

pub same_fault : (fault named : Fault) → TokenError.Fault named ≡ TokenError.Fault fault → fault ≡ named
same_fault fault named is = cc is

-- an error of a JSON text that is handed on
pub refused_misformed : (text : List ℕ) (fault : Fault) (error : JsonFormError) → misformed error ≡ TokenError.Fault fault → is_json (trimmed text) ≡ true → length text ≤ file_max
    → ((place : JsonPlace) → error ≡ JsonFormError.Fault place → IsJsonPlace (trimmed text) place) → IsTextRefused text fault
refused_misformed text fault JsonFormError.Memory is json short why = cc is
refused_misformed text fault (JsonFormError.Fault place) is json short why = refused_form text fault place (same_fault fault (fault_at Condition.Form (Json place)) is) json short (why place refl)
