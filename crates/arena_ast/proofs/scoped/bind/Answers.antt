-- A name is given its number, and then the number a value.
use Rattle.std.proofs.Common.{◌≡◌, ℕ, List, ap, ◌∙◌, Option, Some, Bool, Result, Ok, Err, refl, inl, inr}
use Rattle.std.specs.Prelude.{IfOk, OnOk, OnErr, if◌then◌else◌, not}
use Rattle.arena_items.specs.declared.room.AllocError.{AllocError}
use Rattle.arena_symbols.specs.Interner.{number_of}
use Rattle.arena_symbols.specs.Scoping.{is_in_last, with_pair}
use Rattle.arena_ast.specs.Rows.{Rows, NameRefused}
use Rattle.arena_ast.proofs.AstLemmas.{error_is}
use Rattle.arena_ast.proofs.MoveLemmas.{moves_then}
use Rattle.arena_ast.proofs.scoped.bind.Goals as goal

-- with the scopes and the numbers of before
module _ {was before : List (List (ℕ × ℕ))} (now : List (List (ℕ × ℕ))) (same : before ≡ was) where
  bound_as : (result : Result Bool AllocError) (id value : ℕ) (number : Option ℕ) → number ≡ Some id
      → IfOk result (λ b. b ≡ not (is_in_last before id)) → IfOk result (λ b. now ≡ (if b then with_pair before id value else before))
      → IfOk result (λ b. (k : ℕ) × (number ≡ Some k) × (b ≡ not (is_in_last was k)) × (now ≡ (if b then with_pair was k value else was)))
  bound_as (Ok b) id value number is says scopes = (
    id,
    is,
    says ∙ ap (λ (s : List (List (ℕ × ℕ))). not (is_in_last s id)) same,
    scopes ∙ ap (λ (s : List (List (ℕ × ℕ))). if b then with_pair s id value else s) same,
  )
  bound_as (Err e) id value number is says scopes = tt

  kept_as : (result : Result Bool AllocError) → OnErr result (now ≡ before) → OnErr result (now ≡ was)
  kept_as (Ok b) is = tt
  kept_as (Err e) is = is ∙ same

same_names : {T : Type 0} {x y : Rows T} → x ≡ y → x.names ≡ y.names
same_names is = λ i. (is i).names

on_ok : {X : Type 0} {x y : X} (result : Result Bool AllocError) → x ≡ y → OnOk result (x ≡ y)
on_ok (Ok b) is = is
on_ok (Err e) is = tt

on_err : {X : Type 0} {x y : X} (result : Result Bool AllocError) → x ≡ y → OnErr result (x ≡ y)
on_err (Ok b) is = tt
on_err (Err e) is = is

pub define-requires : goal.define-requires
define-requires g c =
    let moves = c.in_ok-id.ensures.moves in
    (c.beside_law.ensures.first c.args.a.now.memory c.name.new.a.memory c.args.tree.now.first c.name.new.self c.args.tree.now.second
    c.requires moves.held moves.frame).beside.second

pub returns-in_err-id-clause-moves : goal.returns-in_err-id-clause-moves
returns-in_err-id-clause-moves g c =
    let moves = c.in_err-id.ensures.moves in
    let first = c.beside_law.ensures.first c.args.a.now.memory c.name.new.a.memory c.args.tree.now.first c.name.new.self
    c.args.tree.now.second c.requires moves.held moves.frame in
    record { held = first.beside; frame = first.frame }

pub returns-in_err-id-clause-kept : goal.returns-in_err-id-clause-kept
returns-in_err-id-clause-kept g c =
    let moves = c.in_err-id.ensures.moves in
    let first = c.beside_law.ensures.first c.args.a.now.memory c.name.new.a.memory c.args.tree.now.first c.name.new.self
    c.args.tree.now.second c.requires moves.held moves.frame in
    on_err c.from_residual.result first.means

pub returns-in_err-id-clause-binds : goal.returns-in_err-id-clause-binds
returns-in_err-id-clause-binds g c =
    inr (error_is (λ e. (c.args.tree.now.second ≡ c.args.tree.now.second)
    × NameRefused c.args.a.now c.name.new.a c.args.tree.now.first c.args.name.now e) _ c.from_residual.result
    c.from_residual.ensures (refl, c.in_err-id.ensures.refused))

pub returns : goal.returns
returns g c =
    let name = c.in_ok-id.ensures in
    let first = c.beside_law.ensures.first c.args.a.now.memory c.name.new.a.memory c.args.tree.now.first c.name.new.self
    c.args.tree.now.second c.requires name.moves.held name.moves.frame in
    let defined = c.define.ensures in
    let second = c.beside_law.ensures.second c.name.new.a.memory c.define.new.a.memory c.name.new.self c.args.tree.now.second
    c.define.new.self first.beside defined.held defined.frame in
    record {
      moves = moves_then (record { held = first.beside; frame = first.frame }) (record { held = second.beside; frame = second.frame });
      binds = inl (c.in_ok-id.id, c.name.new.a, name.took, defined);
      nodes = name.nodes;
      rows = on_ok c.define.result (second.means ∙ name.rows);
      scopes = bound_as _ first.means c.define.result c.in_ok-id.id c.args.value _
          (ap (λ (names : List (List ℕ)). number_of names c.args.name.now) (same_names second.means) ∙ name.number) defined.says
          defined.scopes;
      kept = kept_as _ first.means c.define.result defined.kept;
    }
