use Rattle.std.proofs.Common.{arith, ◌∙◌, sym, get_or}
use Rattle.memory_map.proofs.StretchLemmas.{Next, next_is, none_next, some_next, blank, first_is}
use Rattle.memory_map.proofs.cursor.MapCursor.next.Goals as goal
use Rattle.memory_map.proofs.cursor.MapCursor.next.Goals.{After-stretch-count}

pub returns-then-is_empty : goal.returns-then-is_empty
returns-then-is_empty c = let none = sym c.self.view_is ∙ none_next c.self.inside.runs.now c.self.inside.at c.is_empty.result c.is_empty.ensures c.if-is_empty.true in (none, none)

next_of : (c : After-stretch-count) → Next c.self.inside.runs.now c.self.inside.at c.stretch-count.result.0 c.stretch-count.result.1 (get_or c.self.inside.runs.now 0 blank).page.memory_type
next_of c = let e = c.stretch-count.ensures in next_is c.self.inside.runs.now c.stretch-count.result.0 c.stretch-count.result.1 c.self.invariant.0 e.pages e.types e.differ c.self.inside.at blank

pub overflow_mul-self : goal.overflow_mul-self
overflow_mul-self c =
    let sizes = (next_of (goal.at.overflow_mul-self c).After-stretch-count).sizes in
    let high = c.self.invariant.1 in
    omega (arith, sizes, high)

pub overflow_add-self : goal.overflow_add-self
overflow_add-self c =
    let sizes = (next_of (goal.at.overflow_add-self c).After-stretch-count).sizes in
    let high = c.self.invariant.1 in
    omega (arith, sizes, high)

pub invariant_of-self : goal.invariant_of-self
invariant_of-self c =
    let n = next_of (goal.at.invariant_of-self c).After-stretch-count in
    let sizes = n.sizes in
    let high = c.self.invariant.1 in
    (n.none_empty, omega (arith, sizes, high))

pub returns : goal.returns
returns c =
    let n = next_of (goal.at.returns c).After-stretch-count in
    first_is c.self.inside.runs.now c.self.inside.at c.stretch-count.result.0 c.stretch-count.result.1 blank _ _ c.described-descriptor.result (some_next c.self.inside.runs.now c.is_empty.result c.is_empty.ensures c.if-is_empty.false) c.self.view_is n c.described-descriptor.ensures
