-- What a reading of the named members sees is what is kept of the whole tree.
use Rattle.std.proofs.Common.{◌≡◌, ◌≤◌, ℕ, max, arith, pos, negsuc, List, [], ◌∷◌, Bor, Bool, true, false, ◌||◌, Option, Some, None, option_map, refl, sym, ap, ap₂, subst, ◌∙◌}
use Rattle.std.specs.Str.{IsUtf8}
use Rattle.std.specs.List.{list_any}
use Rattle.std.specs.Prelude.{map, bytes_eq, if◌then◌else◌}
use Rattle.serde_json.specs.Data as port
use Rattle.serde_json.proofs.Nesting.{depth-read}
use Rattle.serde_json.specs.Find.{is_float}
use Rattle.serde_json.specs.Read.{read as value_of_text}
use Rattle.serde_json.specs.Written.{has_float, items_have_float, members_have_float}
use Rattle.claim_tree.specs.Tree.{Text, Tree, leaf, null, flag, whole, text, array, object, Elements, no_elements, element, Members, no_members, member, depth, elements_depth, members_depth}
use Rattle.claim_tree.specs.JsonText.{data_of, elements_data, members_data}
use Rattle.claim_tree.specs.Kept.{kept, kept_elements, kept_members, ReadsKept}
use Rattle.claim_tree.specs.Passes.{is_wanted, with_seen, seen, seen_items, seen_members, ReadsBy}
use Rattle.claim_tree.specs.declared.pass.Wanted.{Wanted}
use Rattle.claim_tree.specs.declared.pass.Pass.{Pass}
use Rattle.claim_tree.specs.declared.pass.Pass.TheVariants.{Again, Named}
use Rattle.claim_tree.proofs.Datas.{no_float, depth-data}
use Rattle.claim_tree.proofs.OneTree.{data_of-injective}
use Rattle.claim_tree.proofs.Passes.{whole_seen}
use Rattle.claim_tree.proofs.ReadOrdered.{Ordered, ItemsOrdered, NamesOrdered, IsPlain, data_ordered}

-- ---- what is read and has whole numbers alone is the data of a tree

neither : (a b : Bool) → (a || b) ≡ false → (a ≡ false) × (b ≡ false)
neither true b e = absurd (cc)
neither false b e = (refl, e)

plain_whole : (n : port.Num) → IsPlain n → is_float n ≡ false → (t : Tree) × (port.number n ≡ data_of t)
plain_whole (port.unsigned n) p e = (leaf (whole (pos n)), refl)
plain_whole (port.negative z) p e = (leaf (whole (negsuc p.0)), ap (λ z. port.number (port.negative z)) p.1)
plain_whole (port.float x) p e = absurd (cc)

mutual
  tree_from : (d : port.Data) → Ordered d → has_float d ≡ false → (t : Tree) × (d ≡ data_of t)
  tree_from port.null o e = (leaf null, refl)
  tree_from (port.boolean b) o e = (leaf (flag b), refl)
  tree_from (port.number n) o e = plain_whole n o e
  tree_from (port.string s) o e = (leaf (text s), refl)
  tree_from (port.array ds) o e = let es = elements_from ds o e in (array es.0, ap port.array es.1)
  tree_from (port.object ms) o e = let ts = members_from ms o e in (object ts.0, ap port.object ts.1)

  elements_from : (ds : port.Items) → ItemsOrdered ds → items_have_float ds ≡ false → (es : Elements) × (ds ≡ elements_data es)
  elements_from port.no_items o e = (no_elements, refl)
  elements_from (port.item d ds) o e =
      let both = neither (has_float d) (items_have_float ds) e in
      let t = tree_from d o.0 both.0 in
      let es = elements_from ds o.1 both.1 in
      (element t.0 es.0, ap₂ port.item t.1 es.1)

  members_from : (ms : port.Members) → NamesOrdered ms → members_have_float ms ≡ false → (ts : Members) × (ms ≡ members_data ts)
  members_from port.no_members o e = (no_members, refl)
  members_from (port.member k d ms) o e =
      let both = neither (has_float d) (members_have_float ms) e in
      let t = tree_from d o.1 both.0 in
      let ts = members_from ms o.2 both.1 in
      (member k t.0 ts.0, ap₂ (port.member k) t.1 ts.1)

-- ---- what is seen of the data of a tree

any_now : (name : Text) (ns : List (Bor (List ℕ))) → list_any (λ other. bytes_eq other.now name) ns ≡ list_any (λ other. bytes_eq other name) (map (λ n. n.now) ns)
any_now name [] = refl
any_now name (n ∷ ns) = ap (λ b. bytes_eq n.now name || b) (any_now name ns)

whole_tree : (t : Tree) → seen Again (data_of t) ≡ data_of t
whole_tree t = whole_seen (data_of t) (no_float t)

abbrev pub wanted_names : Wanted → List Text
wanted_names wanted = map (λ n. n.now) wanted.names.now

module _ (wanted : Wanted) where
  abbrev names : List Text
  names = wanted_names wanted

  abbrev at_whole : Text
  at_whole = wanted.whole.now

  one_member : (wants is_whole : Bool) (k : Text) (t : Tree) (ms : Members) → seen (Named wanted) (data_of t) ≡ data_of (kept names at_whole t) → seen_members (Named wanted) (members_data ms) ≡ members_data (kept_members names at_whole ms)
      → with_seen k (option_map (λ inner. seen inner (data_of t)) (if wants then Some (if is_whole then Again else Named wanted) else None)) (seen_members (Named wanted) (members_data ms))
      ≡ members_data (if wants then member k (if is_whole then t else kept names at_whole t) (kept_members names at_whole ms) else kept_members names at_whole ms)
  one_member false is_whole k t ms here more = more
  one_member true true k t ms here more = ap₂ (port.member k) (whole_tree t) more
  one_member true false k t ms here more = ap₂ (port.member k) here more

  mutual
    named_tree : (t : Tree) → seen (Named wanted) (data_of t) ≡ data_of (kept names at_whole t)
    named_tree (leaf null) = refl
    named_tree (leaf (flag b)) = refl
    named_tree (leaf (whole (pos n))) = refl
    named_tree (leaf (whole (negsuc n))) = refl
    named_tree (leaf (text s)) = refl
    named_tree (array es) = ap port.array (named_elements es)
    named_tree (object ms) = ap port.object (named_members ms)

    named_elements : (es : Elements) → seen_items (Named wanted) (elements_data es) ≡ elements_data (kept_elements names at_whole es)
    named_elements no_elements = refl
    named_elements (element t es) = ap₂ port.item (named_tree t) (named_elements es)

    named_members : (ms : Members) → seen_members (Named wanted) (members_data ms) ≡ members_data (kept_members names at_whole ms)
    named_members no_members = refl
    named_members (member k t ms) =
        one_member (is_wanted wanted k) (bytes_eq at_whole k) k t ms (named_tree t) (named_members ms)
        ∙ ap (λ wants. members_data (if wants then member k (if bytes_eq at_whole k then t else kept names at_whole t) (kept_members names at_whole ms) else kept_members names at_whole ms)) (any_now k wanted.names.now)

-- ---- depth

low_member : (wants is_whole : Bool) (k : Text) (t u : Tree) (ms more : Members) → depth u ≤ depth t → members_depth more ≤ members_depth ms
    → members_depth (if wants then member k (if is_whole then t else u) more else more) ≤ max (depth t) (members_depth ms)
low_member false is_whole k t u ms more here rest = omega (arith, rest)
low_member true true k t u ms more here rest = omega (arith, rest)
low_member true false k t u ms more here rest = omega (arith, here, rest)

-- what is kept of a tree is no deeper
module _ (names : List Text) (at_whole : Text) where
  mutual
    pub kept_low : (t : Tree) → depth (kept names at_whole t) ≤ depth t
    kept_low (leaf l) = omega arith
    kept_low (array es) = omega (arith, elements_low es)
    kept_low (object ms) = omega (arith, members_low ms)

    elements_low : (es : Elements) → elements_depth (kept_elements names at_whole es) ≤ elements_depth es
    elements_low no_elements = omega arith
    elements_low (element t es) = omega (arith, kept_low t, elements_low es)

    members_low : (ms : Members) → members_depth (kept_members names at_whole ms) ≤ members_depth ms
    members_low no_members = omega arith
    members_low (member k t ms) = low_member (list_any (λ other. bytes_eq other k) names) (bytes_eq at_whole k) k t (kept names at_whole t) ms (kept_members names at_whole ms) (kept_low t) (members_low ms)

-- ---- a text

pub reads_by : (pass : Pass) (bytes : Text) (t : Tree) → option_map has_float (value_of_text bytes) ≡ Some false → option_map (seen pass) (value_of_text bytes) ≡ Some (data_of t) → ReadsBy pass bytes t
reads_by pass bytes t none sees = go (value_of_text bytes) refl none sees
  where
    go : (o : Option port.Data) → value_of_text bytes ≡ o → option_map has_float o ≡ Some false → option_map (seen pass) o ≡ Some (data_of t) → ReadsBy pass bytes t
    go None value none sees = absurd (cc none)
    go (Some d) value none sees = record { all = d; value = value; whole = cc none; is = cc sees }

-- a later reading sees the tree of the text
pub reads_again : (bytes : Text) (t : Tree) → ReadsBy Again bytes t → value_of_text bytes ≡ Some (data_of t)
reads_again bytes t by = by.value ∙ ap Some (sym (whole_seen by.all by.whole) ∙ by.is)

pub kept_shallow : (names : List Text) (at_whole : Text) (bytes : Text) (t : Tree) → ReadsKept names at_whole bytes t → depth t ≤ 127
kept_shallow names at_whole bytes t reads =
    let all : depth reads.all ≤ 127 = subst (λ n. n ≤ 127) (depth-data reads.all) (depth-read bytes (data_of reads.all) reads.reads.value) in
    let low : depth (kept names at_whole reads.all) ≤ 127 = omega (arith, all, kept_low names at_whole reads.all) in
    subst (λ t. depth t ≤ 127) (sym reads.is) low

-- and one of the named members what is kept of it
pub reads_kept : (wanted : Wanted) (bytes : Text) (t : Tree) → IsUtf8 bytes → ReadsBy (Named wanted) bytes t → ReadsKept (wanted_names wanted) wanted.whole.now bytes t
reads_kept wanted bytes t utf8 by =
    let full = tree_from by.all (data_ordered bytes by.all by.value) by.whole in
    let sees : data_of t ≡ data_of (kept (wanted_names wanted) wanted.whole.now full.0) = sym by.is ∙ ap (seen (Named wanted)) full.1 ∙ named_tree wanted full.0 in
    record {
      all = full.0;
      reads = record { utf8 = utf8; value = by.value ∙ ap Some full.1 };
      is = data_of-injective t (kept (wanted_names wanted) wanted.whole.now full.0) sees;
    }
