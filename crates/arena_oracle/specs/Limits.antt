-- The limits of a source of chunks, and what they refuse.
use Rattle.std.specs.Prelude.{◌≡◌, ℕ, ◌+◌, ◌-◌, ◌<◌, ◌≤◌, Bool, true, false, not, ◌&&◌, ◌==◌, nat_le, if◌then◌else◌, List, [], ◌∷◌, ◌++◌, length, map, sum, take, Option, Some, None}
use Rattle.std.specs.List.{list_any}
use Rattle.arena_rules.specs.Source.{Source}
use Rattle.arena_rules.specs.State.{State}
use Rattle.call_rules.specs.Machine.{told}
use Rattle.call_rules.specs.Requests.{requests_of}
use Rattle.call_rules.specs.declared.calls.Call.{Call}
use Rattle.call_rules.specs.declared.calls.Reply.{Reply}

-- ---- What is refused

-- the request with this number, from 1, is to be refused
abbrev pub is_listed : List ℕ → ℕ → Bool
is_listed refuse n = list_any (λ (m : ℕ). m == n) refuse

-- the limits allow the n-th request, for a chunk of this size, where this many bytes are left of the budget
abbrev pub is_allowed : List ℕ → ℕ → ℕ → ℕ → Bool
is_allowed refuse n left size = nat_le size left && not (is_listed refuse n)

-- how many bytes are left after it, and how many requests are refused by it
abbrev pub left_behind : List ℕ → ℕ → ℕ → ℕ → ℕ
left_behind refuse n left size = if is_allowed refuse n left size then left - size else left

abbrev pub one_refusal : List ℕ → ℕ → ℕ → ℕ → ℕ
one_refusal refuse n left size = if is_allowed refuse n left size then 0 else 1

-- the same of some requests, as size and alignment, of which the first is the n-th
abbrev pub left_of : List ℕ → ℕ → ℕ → List (ℕ × ℕ) → ℕ
left_of refuse n left [] = left
left_of refuse n left (r ∷ rest) = left_of refuse (n + 1) (left_behind refuse n left r.0) rest

abbrev pub refusals_of : List ℕ → ℕ → ℕ → List (ℕ × ℕ) → ℕ
refusals_of refuse n left [] = 0
refusals_of refuse n left (r ∷ rest) = one_refusal refuse n left r.0 + refusals_of refuse (n + 1) (left_behind refuse n left r.0) rest

-- how many requests of the first n calls were refused, by their replies, and all requests of these calls
abbrev pub refused_by : List Reply → ℕ → ℕ
refused_by replies n = sum (take n (told replies))

abbrev pub made_by : State → List Call → List Reply → ℕ → List (ℕ × ℕ)
made_by entry calls replies n = requests_of entry (take n calls) (take n (told replies))

-- Of the requests of the first n calls, for each n, the limits refuse as many as the replies report. Of those of the next
-- call, of which its reply reports k, they refuse the first k, and so allow the one behind them. So the limits determine
-- how many are refused in each call.
pub record KeepsLimits (budget : ℕ) (refuse : List ℕ) (entry : State) (calls : List Call) (replies : List Reply) : Type 0 where
  pub first : (n : ℕ) → n ≤ length calls → refused_by replies n ≡ refusals_of refuse 1 budget (made_by entry calls replies n)
  pub next : (n : ℕ) → n < length calls → refused_by replies (n + 1) ≡ refusals_of refuse 1 budget
      (take (length (made_by entry calls replies n) + (refused_by replies (n + 1) - refused_by replies n))
      (made_by entry calls replies (n + 1)))

-- ---- What is reported

-- The first entries of what a source with limits reports: the budget, how many numbers are listed, and these. A run
-- only adds to a report, so it is over a source with the same limits at its end.
abbrev pub entry_of : ℕ → ℕ × ℕ
entry_of n = (n, 0)

abbrev pub given : ℕ → List ℕ → List (ℕ × ℕ)
given budget refuse = (budget, length refuse) ∷ map entry_of refuse

-- the limits and then all requests, unless memory ran out for one
abbrev pub reported : Bool → ℕ → List ℕ → List (ℕ × ℕ) → Option (List (ℕ × ℕ))
reported true budget refuse requests = None
reported false budget refuse requests = Some (given budget refuse ++ requests)

-- a source with these limits that has had no request
abbrev pub limited : ℕ → List ℕ → Source
limited budget refuse = record { refusals = 0; asked = reported false budget refuse [] }

-- a run from a source with limits keeps them
abbrev pub KeepsThose : Source → State → List Call → List Reply → Type 0
KeepsThose source entry calls replies =
    (budget : ℕ) (refuse : List ℕ) → source ≡ limited budget refuse → KeepsLimits budget refuse entry calls replies
