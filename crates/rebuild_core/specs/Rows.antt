-- For private functions: the flat list of the digests of a payload and of all given values.
use Rattle.std.specs.Prelude.{ℕ, ◌+◌, List, [], ◌∷◌, ◌++◌, map, length, Bool, true, false, Option, Some, None, bytes_eq, if◌then◌else◌}
use Rattle.std.proofs.Common.{Bor}
use Rattle.claim_tree.specs.Tree.{Text, Tree, leaf, array, object, Elements, no_elements, element, Members, no_members, member, names}
use Rattle.claim_tree.specs.Removed.{removed}
use Rattle.digest_sites.specs.Reserved.{sd_name, sd_texts, element_digest}
use Rattle.digest_sites.specs.Given.{Given}
use Rattle.digest_sites.specs.declared.site.SiteKind.{SiteKind}
use Rattle.digest_sites.specs.declared.site.SiteKind.TheVariants.{Member, Element}
use Rattle.rebuild_core.specs.Payload.{alg_name}
use Rattle.rebuild_core.specs.declared.rows.Row.{Row}

-- what a row says of a digest: whether it stands in the payload's own object,
-- and the number of its object
pub record SeenRow : Type 0 where
  pub kind : SiteKind
  pub digest : Text
  pub beside : List Text
  pub top : Bool
  pub object : ℕ

-- in the payload `_sd_alg` is beside no digest
abbrev pub beside_names : Bool → Members → List Text
beside_names top ms = names (if top then removed ms alg_name else ms)

abbrev pub names_beside : Bool → Option (Bor Members) → List Text
names_beside top None = []
names_beside top (Some ms) = beside_names top ms.now

abbrev pub seen : Row → SeenRow
seen row =
    record {
      kind = row.kind;
      digest = row.digest.now;
      beside = names_beside row.top row.beside;
      top = row.top;
      object = row.object;
    }

abbrev pub own_row : Bool → ℕ → List Text → Text → SeenRow
own_row top n beside digest =
    record { kind = Member; digest = digest; beside = beside; top = top; object = n }

abbrev pub rows_on : ℕ → Option Text → List SeenRow → List SeenRow
rows_on n None inside = inside
rows_on n (Some digest) inside =
    record { kind = Element; digest = digest; beside = []; top = false; object = n } ∷ []

-- the digests of a tree in the order of its sites, where n come before; the
-- number of an object is the place of its first digest
abbrev mutual
  pub tree_rows : Bool → ℕ → Tree → List SeenRow
  tree_rows top n (leaf l) = []
  tree_rows top n (array es) = element_rows n es
  tree_rows top n (object ms) =
      map (own_row top n (beside_names top ms)) (sd_texts ms)
      ++ member_rows (n + length (sd_texts ms)) ms

  pub element_rows : ℕ → Elements → List SeenRow
  element_rows n no_elements = []
  element_rows n (element t es) =
      rows_on n (element_digest t) (tree_rows false n t)
      ++ element_rows (n + length (rows_on n (element_digest t) (tree_rows false n t))) es

  pub member_rows : ℕ → Members → List SeenRow
  member_rows n no_members = []
  member_rows n (member name t ms) =
      (if bytes_eq name sd_name then [] else tree_rows false n t)
      ++ member_rows (n + length (if bytes_eq name sd_name then [] else tree_rows false n t)) ms

abbrev pub value_rows : ℕ → List Given → List SeenRow
value_rows n [] = []
value_rows n (x ∷ given) =
    tree_rows false n x.value ++ value_rows (n + length (tree_rows false n x.value)) given

-- those of the payload, then those of each value
abbrev pub all_rows : Tree → List Given → List SeenRow
all_rows p given = tree_rows true 0 p ++ value_rows (length (tree_rows true 0 p)) given

-- where the rows of each value end, where n come before
abbrev pub value_ends : ℕ → List Given → List ℕ
value_ends n [] = []
value_ends n (x ∷ given) =
    (n + length (tree_rows false n x.value))
    ∷ value_ends (n + length (tree_rows false n x.value)) given

-- where the rows of the payload end, and then those of each value
abbrev pub row_ends : Tree → List Given → List ℕ
row_ends p given = length (tree_rows true 0 p) ∷ value_ends (length (tree_rows true 0 p)) given
