-- The data of the Unicode Character Database, in the words of the look-ups' contracts.
use Rattle.std.specs.Prelude.{Bool, ℕ, not}
use Rattle.nf_forms.specs.Properties.{Properties}
use Rattle.unicode.specs.CanonicalCombiningClass.{canonical_combining_class}
use Rattle.unicode.specs.GeneralCategory.{general_category, general_category_eq}
use Rattle.ucd_category.specs.declared.GeneralCategory.TheVariants.{Unassigned}
use Rattle.unicode_normalization.specs.Decompose.{decompose_canonical, decompose_compatible}
use Rattle.unicode_normalization.specs.Compose.{primary_composite}

-- the general category is not Cn
unfoldable pub is_assigned : ℕ → Bool
is_assigned c = not (general_category_eq (general_category c) Unassigned)

unfoldable pub ucd : Properties
ucd = record {
  class = canonical_combining_class;
  canonical = decompose_canonical;
  compat = decompose_compatible;
  pair = primary_composite;
  assigned = is_assigned;
}
