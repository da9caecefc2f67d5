-- What takes findings, and what it has taken from one state to another.
use Rattle.std.specs.Prelude.{◌≡◌, ℕ, List, [], ◌++◌, Vec}
use Rattle.std.specs.Global.{Global}
use Rattle.std.specs.List.{flat_map}
use Rattle.std.proofs.Common.{sym, ap, ◌∙◌, append_assoc}
use Rattle.std.proofs.lemmas.List.{append-nil}
use Rattle.std.proofs.lemmas.Grind.{flat_map-append}
use Rattle.tree_rules.specs.declared.finding.Finding.{Finding}
use Rattle.lint_reports.specs.Room.{fed_finding}

-- From one state to another these findings were taken: none from a state to itself, and what was taken by way of a
-- third is both.
pub record Taking (F : Type 0) : Type 1 where
  pub gains : F → F → List Finding → Type 0
  pub none : (f : F) → gains f f []
  pub both : {a b c : F} (xs ys : List Finding) → gains a b xs → gains b c ys → gains a c (xs ++ ys)

-- a list of findings takes them as they are
abbrev pub listed : Taking (List Finding)
listed = record {
  gains = λ a b xs. b ≡ a ++ xs;
  none = λ f. sym (append-nil f);
  both = λ {a} {b} {c} xs ys one two. two ∙ ap (λ l. l ++ ys) one ∙ append_assoc a xs ys;
}

-- a text takes their lines, each with its line feed
abbrev pub in_lines : Taking (Vec ℕ Global)
in_lines = record {
  gains = λ a b xs. b.items ≡ a.items ++ flat_map fed_finding xs;
  none = λ f. sym (append-nil f.items);
  both = λ {a} {b} {c} xs ys one two.
      two ∙ ap (λ l. l ++ flat_map fed_finding ys) one
      ∙ append_assoc a.items (flat_map fed_finding xs) (flat_map fed_finding ys)
      ∙ ap (λ l. a.items ++ l) (sym (flat_map-append fed_finding xs ys));
}
