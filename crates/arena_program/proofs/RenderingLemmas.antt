-- What workers leave of outcomes, and the results that they are left of.
use Rattle.std.proofs.Common.{◌≡◌, ℕ, ◌+◌, List, [], ◌∷◌, ◌++◌, refl, sym, ap, ◌∙◌, inl, inr}
use Rattle.std.specs.Prelude.{Result, Ok, Err, IfOk}
use Rattle.std.specs.List.{AllZip, enumerate_from}
use Rattle.arena_chunks.specs.Source.{Source}
use Rattle.arena_pool.specs.declared.kind.PoolKind.{PoolKind}
use Rattle.arena_workers.specs.Working.{Terms, IsServed}
use Rattle.arena_workers.specs.declared.served.Served.{Served}
use Rattle.arena_program.specs.PoolEnds.{shown, starved_of}
use Rattle.arena_program.specs.Rendering.{outcome_text, text_from, joined, IsPrintout, rendered_text, rendered_refused, rendered_terms}
use Rattle.arena_program.specs.declared.printout.Printout.{Printout}
use Rattle.arena_program.specs.declared.rendered.Rendered.{Rendered}

module _ {P O : Type 0} (text : ℕ → O → List ℕ) (terms : Terms P O) where
  module _ {C : Type 0} (source : C → Source) (kind : PoolKind) where
    -- the result of one piece, of which this is left
    one_of : (i : ℕ) (piece : P) (left : Served (Rendered O) C) → IsServed source kind (rendered_terms text terms) (i, piece) left
        → (served : Served O C) × IsServed source kind terms (i, piece) served × (rendered_text text i left.outcome ≡ text i served.outcome)
        × (left.starved ≡ served.starved)
    one_of i piece left (inl done) =
        let is = done.done.2 in (
          record { outcome = done.done.0; starved = left.starved },
          inl (record {
            old = done.old;
            new = done.new;
            unused = done.unused;
            low = done.low;
            done = done.done.1;
            of_kind = done.of_kind;
            refused = λ refused. done.refused (is.same_refused ∙ refused);
            other = λ other. done.other (is.same_refused ∙ other);
          }),
          is.same_text,
          refl,
        )
    one_of i piece left (inr none) = let same = none.unserved.2 in (
      record { outcome = none.unserved.0; starved = left.starved },
      inr (record {
        unserved = none.unserved.1;
        other = sym (ap (rendered_refused terms.is_refused) same) ∙ none.other;
        none = none.none;
      }),
      ap (rendered_text text i) same,
      refl,
    )

    all_of : (i : ℕ) (pieces : List P) (left : List (Served (Rendered O) C))
        → AllZip (IsServed source kind (rendered_terms text terms)) (enumerate_from i pieces) left
        → (all : List (Served O C)) × AllZip (IsServed source kind terms) (enumerate_from i pieces) all
        × (text_from (outcome_text (rendered_text text)) i left ≡ text_from (outcome_text text) i all)
        × (starved_of (λ s. s.starved) i left ≡ starved_of (λ s. s.starved) i all)
    all_of i [] [] are = ([], tt, refl, refl)
    all_of i [] (_ ∷ left) are = absurd are
    all_of i (piece ∷ pieces) [] are = absurd are
    all_of i (piece ∷ pieces) (first ∷ left) are =
        let one = one_of i piece first are.0 in
        let rest = all_of (i + 1) pieces left are.1 in (
          one.0 ∷ rest.0,
          (one.1, rest.1),
          ap (λ xs. xs ++ text_from (outcome_text (rendered_text text)) (i + 1) left) one.2 ∙ ap (λ xs. text i one.0.outcome ++ xs) rest.2,
          ap (λ x. shown i x ++ starved_of (λ s. s.starved) (i + 1) left) one.3 ∙ ap (λ xs. shown i one.0.starved ++ xs) rest.3,
        )

    -- what is put together of what workers left is a printout of the results
    pub printed_of : {E : Type 0} (pieces : List P) (left : List (Served (Rendered O) C)) (r : Result (Printout C) E)
        → AllZip (IsServed source kind (rendered_terms text terms)) (enumerate_from 0 pieces) left
        → IfOk r (λ printout. joined printout.texts.items ≡ text_from (outcome_text (rendered_text text)) 0 left)
        → IfOk r (λ printout. printout.starved.items ≡ starved_of (λ s. s.starved) 0 left)
        → IfOk r (IsPrintout (IsServed source kind terms) (outcome_text text) (λ s. s.starved) (enumerate_from 0 pieces))
    printed_of pieces left (Ok printout) are texts starved = let of = all_of 0 pieces left are in record {
      all = of.0;
      alone = of.1;
      texts = texts ∙ of.2;
      gained = starved ∙ of.3;
    }
    printed_of pieces left (Err e) are texts starved = tt
