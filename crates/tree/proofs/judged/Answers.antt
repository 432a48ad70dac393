-- The answer is `checked_tree` in mode 0, a refusal at a time: `rest_2` to `rest_5` say that the tests passed so far leave the answer to the rest of it.
use mathlib.Core.Path.{◌≡◌, sym, ◌∙◌}
use mathlib.Core.Bool.{Bool, not}
use mathlib.Core.List.{List}
use Prim.Native.Nat.{ℕ, ◌-◌, ◌<◌, ◌≤◌}
use native.Mathlib.Omega.{arith}
use lib.ListN.{get_or, take}
use lib.Dec.{leb}
use Rattle.meaning.specs.Base.{lowest}
use Rattle.meaning.specs.Fields.{fields}
use Rattle.meaning.specs.Grammar.{wide_marks}
use Rattle.meaning.specs.Tree.{tree_at, depth_at}
use Rattle.meaning.specs.Check.{checked_fields, checked_tree}
use Rattle.meaning.proofs.Modes.{unless_yes, unless_no}
use Rattle.std.specs.Prelude.{Option, None, Some, position}
use Rattle.tree.specs.Scratch.{once, first, depth_in, Beyond, Found}
use Rattle.tree.proofs.First.{first_yes, first_no, position_first}
use Rattle.tree.specs.Used.{few}
use Rattle.tree.proofs.Words.{beyond_refl, beyond_more}
use Rattle.tree.proofs.Answers.{own_shape, Shapely, free_is, owned_is, deep_is, no_fields, cut_off, too_many, not_many, after_depth, after_tree, after_shape, checked_at, no_work, all_well}
use Rattle.tree.proofs.judged.Goals as goal

-- what a walk found of the file s and left in the scratch l; there are n nodes
module _ (s l : List ℕ) (n after : ℕ) (wrong : Option ℕ) (f : Found (wide_marks (fields s)) s l n after wrong) (some : n ≡ 0 → ⊥) (none : after ≡ 0) (most : n ≤ 32768) where
  -- 1 and 2
  rest_2 : (work : ℕ) → checked_fields 0 (fields s) work ≡ checked_tree 0 s work
  rest_2 work = not_many s work n after f.whole_fields f.bytes_after some none most

  beyond : (l' : List ℕ) → Beyond n l l' → Beyond (few n) l l'
  beyond l' b = beyond_more _ _ _ _ (omega arith) b

  -- 3
  module _ (right : wrong ≡ None) where
    shapely : Shapely (fields s) l n
    shapely = record {
      all = f.whole_fields;
      some = omega arith;
      most = most;
      room = omega (arith, f.room);
      shapes = first_no _ _ (sym right ∙ f.shapes none most) ∙ own_shape _ _;
      entered = f.shapely none most right;
    }

    rest_3 : (work : ℕ) → after_shape (fields s) work n f.whole_fields ≡ checked_tree 0 s work
    rest_3 work = unless_no _ _ _ _ _ shapely.shapes (omega arith) ∙ checked_at _ _ _ f.whole_fields ∙ rest_2 work

    abbrev once_at : ℕ → Bool
    once_at c = once (get_or l c 0)

    unowned : (o : Option ℕ) → o ≡ position (λ (w : ℕ). not (once w)) (take (n - 1) l) → o ≡ first once_at (n - 1)
    unowned o e = e ∙ position_first once l (n - 1) (omega (arith, f.room))

    -- 4
    free : (k : ℕ) → Some k ≡ first once_at (n - 1) → (k ≡ lowest (tree_at (fields s)) (n - 1)) × (k < n - 1)
    free k e = let y = first_yes _ _ k e in (free_is _ _ _ shapely _ y.0, y.1)

    module _ (owned : None ≡ first once_at (n - 1)) where
      all_owned : n - 1 ≡ lowest (tree_at (fields s)) (n - 1)
      all_owned = free_is _ _ _ shapely _ (first_no _ _ owned)

      trees : n - 1 ≤ lowest (tree_at (fields s)) (n - 1)
      trees = omega (arith, all_owned)

      rest_4 : (work : ℕ) → after_tree (fields s) work n f.whole_fields ≡ checked_tree 0 s work
      rest_4 work = unless_no _ _ _ _ _ all_owned (omega arith) ∙ rest_3 work

      abbrev shallow_at : ℕ → Bool
      shallow_at c = leb (depth_in l n c) 128

      -- 5
      deep : (k : ℕ) → Some k ≡ first shallow_at n → (k ≡ lowest (depth_at (fields s)) n) × (k < n)
      deep k e = let y = first_yes _ _ k e in (deep_is _ _ _ shapely trees _ y.0, y.1)

      rest_5 : None ≡ first shallow_at n → (work : ℕ) → after_depth (fields s) work n f.whole_fields ≡ checked_tree 0 s work
      rest_5 shallow work = unless_no _ _ _ _ _ (deep_is _ _ _ shapely trees _ (first_no _ _ shallow)) (omega arith) ∙ rest_4 work

-- the eight answers
pub returns-then-n-eq0 : goal.returns-then-n-eq0
returns-then-n-eq0 c = let pre = c.requires in record {
  outcome = no_fields _ _ _ _ pre.whole_fields pre.bytes_after c.if-n-eq0.true;
  beyond = beyond_refl _ _;
}

pub returns-then-walked-ne0 : goal.returns-then-walked-ne0
returns-then-walked-ne0 c = let pre = c.requires in record {
  outcome = cut_off _ _ _ _ pre.whole_fields pre.bytes_after c.if-walked-ne0.true;
  beyond = beyond_refl _ _;
}

pub returns-then-n-gt-MOST : goal.returns-then-n-gt-MOST
returns-then-n-gt-MOST c = let pre = c.requires in record {
  outcome = too_many _ _ _ _ pre.whole_fields pre.bytes_after c.if-n-eq0.false c.if-walked-ne0.false c.if-n-gt-MOST.true;
  beyond = beyond_refl _ _;
}

pub returns-in-Some : goal.returns-in-Some
returns-in-Some c = let pre = c.requires in let y = first_yes _ _ _ (sym c.in-Some.is ∙ pre.shapes c.if-walked-ne0.false c.if-n-gt-MOST.false) in record {
  outcome = unless_yes _ _ _ _ _ (y.0 ∙ own_shape _ _) y.1
      ∙ checked_at _ _ _ pre.whole_fields
      ∙ rest_2 _ _ _ _ _ c.requires c.if-n-eq0.false c.if-walked-ne0.false c.if-n-gt-MOST.false _;
  beyond = beyond_refl _ _;
}

pub returns-in-Some-first_unowned : goal.returns-in-Some-first_unowned
returns-in-Some-first_unowned c = let y = free _ _ _ _ _ c.requires c.if-n-eq0.false c.if-walked-ne0.false c.if-n-gt-MOST.false c.in_default.is _ (sym c.in-Some-first_unowned.is ∙ unowned _ _ _ _ _ c.requires c.if-n-eq0.false c.if-walked-ne0.false c.if-n-gt-MOST.false c.in_default.is _ c.first_unowned.ensures) in record {
  outcome = unless_yes _ _ _ _ _ y.0 y.1 ∙ rest_3 _ _ _ _ _ c.requires c.if-n-eq0.false c.if-walked-ne0.false c.if-n-gt-MOST.false c.in_default.is _;
  beyond = beyond_refl _ _;
}

pub first_deep-requires : goal.first_deep-requires
first_deep-requires c = owned_is _ _ _ (shapely _ _ _ _ _ c.requires c.if-n-eq0.false c.if-walked-ne0.false c.if-n-gt-MOST.false c.in_default.is) (trees _ _ _ _ _ c.requires c.if-n-eq0.false c.if-walked-ne0.false c.if-n-gt-MOST.false c.in_default.is (sym c.in_default-first_unowned.is ∙ unowned _ _ _ _ _ c.requires c.if-n-eq0.false c.if-walked-ne0.false c.if-n-gt-MOST.false c.in_default.is _ c.first_unowned.ensures))

pub returns-in-Some-first_deep : goal.returns-in-Some-first_deep
returns-in-Some-first_deep c =
    let own = sym c.in_default-first_unowned.is ∙ unowned _ _ _ _ _ c.requires c.if-n-eq0.false c.if-walked-ne0.false c.if-n-gt-MOST.false c.in_default.is _ c.first_unowned.ensures in
    let y = deep _ _ _ _ _ c.requires c.if-n-eq0.false c.if-walked-ne0.false c.if-n-gt-MOST.false c.in_default.is own _ (sym c.in-Some-first_deep.is ∙ c.first_deep.ensures.lowest) in record {
      outcome = unless_yes _ _ _ _ _ y.0 y.1 ∙ rest_4 _ _ _ _ _ c.requires c.if-n-eq0.false c.if-walked-ne0.false c.if-n-gt-MOST.false c.in_default.is own _;
      beyond = beyond _ _ _ _ _ c.requires c.if-n-eq0.false c.if-walked-ne0.false c.if-n-gt-MOST.false _ c.first_deep.ensures.beyond;
    }

pub returns-then-work_len-n : goal.returns-then-work_len-n
returns-then-work_len-n c = let own = sym c.in_default-first_unowned.is ∙ unowned _ _ _ _ _ c.requires c.if-n-eq0.false c.if-walked-ne0.false c.if-n-gt-MOST.false c.in_default.is _ c.first_unowned.ensures in record {
  outcome = no_work _ _ c.if-work_len-n.true ∙ rest_5 _ _ _ _ _ c.requires c.if-n-eq0.false c.if-walked-ne0.false c.if-n-gt-MOST.false c.in_default.is own (sym c.in_default-first_deep.is ∙ c.first_deep.ensures.lowest) _;
  beyond = beyond _ _ _ _ _ c.requires c.if-n-eq0.false c.if-walked-ne0.false c.if-n-gt-MOST.false _ c.first_deep.ensures.beyond;
}

pub returns : goal.returns
returns c = let own = sym c.in_default-first_unowned.is ∙ unowned _ _ _ _ _ c.requires c.if-n-eq0.false c.if-walked-ne0.false c.if-n-gt-MOST.false c.in_default.is _ c.first_unowned.ensures in record {
  outcome = all_well _ _ c.if-work_len-n.false ∙ rest_5 _ _ _ _ _ c.requires c.if-n-eq0.false c.if-walked-ne0.false c.if-n-gt-MOST.false c.in_default.is own (sym c.in_default-first_deep.is ∙ c.first_deep.ensures.lowest) _;
  beyond = beyond _ _ _ _ _ c.requires c.if-n-eq0.false c.if-walked-ne0.false c.if-n-gt-MOST.false _ c.first_deep.ensures.beyond;
}
