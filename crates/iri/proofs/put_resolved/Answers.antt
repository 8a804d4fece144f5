use Prim.Native.Nat.{◌-◌}
use Rattle.iri.proofs.Puts.{part_length, plan_facts, front_size, end_fits, path_size, path_short, whole_put}
use mathlib.Core.Path.{refl}
use native.Mathlib.Omega.{arith}
use lib.ListN.{length, drop, length-drop}
use Rattle.iri.proofs.put_resolved.Goals as goal

pub overflow_add-end-2 : goal.overflow_add-end-2
overflow_add-end-2 c = let f = plan_facts c.args.base.now (drop c.args.start c.args.out.now) c.requires.0.0.0 c.args.p c.requires.0.1 in let l = length-drop c.args.start c.args.out.now in omega arith

pub put_front-requires : goal.put_front-requires
put_front-requires c = let f = plan_facts c.args.base.now (drop c.args.start c.args.out.now) c.requires.0.0.0 c.args.p c.requires.0.1 in let l = length-drop c.args.start c.args.out.now in ((f.kept, f.one), (omega arith, omega arith))

pub slice_bounds-remove_dots-count : goal.slice_bounds-remove_dots-count
slice_bounds-remove_dots-count c = let f = plan_facts c.args.base.now (drop c.args.start c.args.out.now) c.requires.0.0.0 c.args.p c.requires.0.1 in let l = length-drop c.args.start c.args.out.now in omega (arith, end_fits c.args.base.now c.args.out.now c.args.start c.requires.0.0.0 c.requires.0.0.1 c.args.p c.requires.0.1 c.requires.1 c.put_front.new.out c.put_front.ensures)

pub slice_bounds-remove_dots-start : goal.slice_bounds-remove_dots-start
slice_bounds-remove_dots-start c = let f = plan_facts c.args.base.now (drop c.args.start c.args.out.now) c.requires.0.0.0 c.args.p c.requires.0.1 in let l = length-drop c.args.start c.args.out.now in omega (arith, end_fits c.args.base.now c.args.out.now c.args.start c.requires.0.0.0 c.requires.0.0.1 c.args.p c.requires.0.1 c.requires.1 c.put_front.new.out c.put_front.ensures)

pub overflow_sub-end : goal.overflow_sub-end
overflow_sub-end c = let f = plan_facts c.args.base.now (drop c.args.start c.args.out.now) c.requires.0.0.0 c.args.p c.requires.0.1 in let l = length-drop c.args.start c.args.out.now in omega (arith, f.start)

pub remove_dots-m-requires : goal.remove_dots-m-requires
remove_dots-m-requires c = let f = plan_facts c.args.base.now (drop c.args.start c.args.out.now) c.requires.0.0.0 c.args.p c.requires.0.1 in let l = length-drop c.args.start c.args.out.now in omega (arith, end_fits c.args.base.now c.args.out.now c.args.start c.requires.0.0.0 c.requires.0.0.1 c.args.p c.requires.0.1 c.requires.1 c.put_front.new.out c.put_front.ensures, part_length c.put_front.new.out c.args.p.from (length c.put_front.new.out - c.args.p.from) refl)

pub overflow_sub-n-2 : goal.overflow_sub-n-2
overflow_sub-n-2 c = let f = plan_facts c.args.base.now (drop c.args.start c.args.out.now) c.requires.0.0.0 c.args.p c.requires.0.1 in let l = length-drop c.args.start c.args.out.now in omega (arith, end_fits c.args.base.now c.args.out.now c.args.start c.requires.0.0.0 c.requires.0.0.1 c.args.p c.requires.0.1 c.requires.1 c.put_front.new.out c.put_front.ensures, front_size c.args.base.now c.args.out.now c.args.start c.requires.0.0.0 c.requires.0.0.1 c.args.p c.requires.0.1 c.requires.1 c.put_front.new.out c.put_front.ensures, path_size c.args.base.now c.args.out.now c.args.start c.requires.0.0.0 c.requires.0.0.1 c.args.p c.requires.0.1 c.requires.1 c.put_front.new.out c.put_front.ensures c.remove_dots-m.new.path _ c.remove_dots-m.result (length c.put_front.new.out - c.args.p.from) refl c.remove_dots-m.ensures refl, path_short c.args.base.now c.args.out.now c.args.start c.requires.0.0.0 c.requires.0.0.1 c.args.p c.requires.0.1 c.requires.1 c.put_front.new.out c.put_front.ensures c.remove_dots-m.new.path _ c.remove_dots-m.result (length c.put_front.new.out - c.args.p.from) refl c.remove_dots-m.ensures refl)

pub overflow_add-start : goal.overflow_add-start
overflow_add-start c = let f = plan_facts c.args.base.now (drop c.args.start c.args.out.now) c.requires.0.0.0 c.args.p c.requires.0.1 in let l = length-drop c.args.start c.args.out.now in omega (arith, end_fits c.args.base.now c.args.out.now c.args.start c.requires.0.0.0 c.requires.0.0.1 c.args.p c.requires.0.1 c.requires.1 c.put_front.new.out c.put_front.ensures, front_size c.args.base.now c.args.out.now c.args.start c.requires.0.0.0 c.requires.0.0.1 c.args.p c.requires.0.1 c.requires.1 c.put_front.new.out c.put_front.ensures, path_size c.args.base.now c.args.out.now c.args.start c.requires.0.0.0 c.requires.0.0.1 c.args.p c.requires.0.1 c.requires.1 c.put_front.new.out c.put_front.ensures c.remove_dots-m.new.path _ c.remove_dots-m.result (length c.put_front.new.out - c.args.p.from) refl c.remove_dots-m.ensures refl, path_short c.args.base.now c.args.out.now c.args.start c.requires.0.0.0 c.requires.0.0.1 c.args.p c.requires.0.1 c.requires.1 c.put_front.new.out c.put_front.ensures c.remove_dots-m.new.path _ c.remove_dots-m.result (length c.put_front.new.out - c.args.p.from) refl c.remove_dots-m.ensures refl)

pub overflow_add-from : goal.overflow_add-from
overflow_add-from c = let f = plan_facts c.args.base.now (drop c.args.start c.args.out.now) c.requires.0.0.0 c.args.p c.requires.0.1 in let l = length-drop c.args.start c.args.out.now in omega (arith, end_fits c.args.base.now c.args.out.now c.args.start c.requires.0.0.0 c.requires.0.0.1 c.args.p c.requires.0.1 c.requires.1 c.put_front.new.out c.put_front.ensures, front_size c.args.base.now c.args.out.now c.args.start c.requires.0.0.0 c.requires.0.0.1 c.args.p c.requires.0.1 c.requires.1 c.put_front.new.out c.put_front.ensures, path_size c.args.base.now c.args.out.now c.args.start c.requires.0.0.0 c.requires.0.0.1 c.args.p c.requires.0.1 c.requires.1 c.put_front.new.out c.put_front.ensures c.remove_dots-m.new.path _ c.remove_dots-m.result (length c.put_front.new.out - c.args.p.from) refl c.remove_dots-m.ensures refl, path_short c.args.base.now c.args.out.now c.args.start c.requires.0.0.0 c.requires.0.0.1 c.args.p c.requires.0.1 c.requires.1 c.put_front.new.out c.put_front.ensures c.remove_dots-m.new.path _ c.remove_dots-m.result (length c.put_front.new.out - c.args.p.from) refl c.remove_dots-m.ensures refl)

pub move_left-requires : goal.move_left-requires
move_left-requires c = let f = plan_facts c.args.base.now (drop c.args.start c.args.out.now) c.requires.0.0.0 c.args.p c.requires.0.1 in let l = length-drop c.args.start c.args.out.now in (omega (arith, end_fits c.args.base.now c.args.out.now c.args.start c.requires.0.0.0 c.requires.0.0.1 c.args.p c.requires.0.1 c.requires.1 c.put_front.new.out c.put_front.ensures, front_size c.args.base.now c.args.out.now c.args.start c.requires.0.0.0 c.requires.0.0.1 c.args.p c.requires.0.1 c.requires.1 c.put_front.new.out c.put_front.ensures, path_size c.args.base.now c.args.out.now c.args.start c.requires.0.0.0 c.requires.0.0.1 c.args.p c.requires.0.1 c.requires.1 c.put_front.new.out c.put_front.ensures c.remove_dots-m.new.path _ c.remove_dots-m.result (length c.put_front.new.out - c.args.p.from) refl c.remove_dots-m.ensures refl, path_short c.args.base.now c.args.out.now c.args.start c.requires.0.0.0 c.requires.0.0.1 c.args.p c.requires.0.1 c.requires.1 c.put_front.new.out c.put_front.ensures c.remove_dots-m.new.path _ c.remove_dots-m.result (length c.put_front.new.out - c.args.p.from) refl c.remove_dots-m.ensures refl), omega (arith, end_fits c.args.base.now c.args.out.now c.args.start c.requires.0.0.0 c.requires.0.0.1 c.args.p c.requires.0.1 c.requires.1 c.put_front.new.out c.put_front.ensures, front_size c.args.base.now c.args.out.now c.args.start c.requires.0.0.0 c.requires.0.0.1 c.args.p c.requires.0.1 c.requires.1 c.put_front.new.out c.put_front.ensures, path_size c.args.base.now c.args.out.now c.args.start c.requires.0.0.0 c.requires.0.0.1 c.args.p c.requires.0.1 c.requires.1 c.put_front.new.out c.put_front.ensures c.remove_dots-m.new.path _ c.remove_dots-m.result (length c.put_front.new.out - c.args.p.from) refl c.remove_dots-m.ensures refl, path_short c.args.base.now c.args.out.now c.args.start c.requires.0.0.0 c.requires.0.0.1 c.args.p c.requires.0.1 c.requires.1 c.put_front.new.out c.put_front.ensures c.remove_dots-m.new.path _ c.remove_dots-m.result (length c.put_front.new.out - c.args.p.from) refl c.remove_dots-m.ensures refl))

pub overflow_add-result : goal.overflow_add-result
overflow_add-result c = let f = plan_facts c.args.base.now (drop c.args.start c.args.out.now) c.requires.0.0.0 c.args.p c.requires.0.1 in let l = length-drop c.args.start c.args.out.now in omega (arith, end_fits c.args.base.now c.args.out.now c.args.start c.requires.0.0.0 c.requires.0.0.1 c.args.p c.requires.0.1 c.requires.1 c.put_front.new.out c.put_front.ensures, front_size c.args.base.now c.args.out.now c.args.start c.requires.0.0.0 c.requires.0.0.1 c.args.p c.requires.0.1 c.requires.1 c.put_front.new.out c.put_front.ensures, path_size c.args.base.now c.args.out.now c.args.start c.requires.0.0.0 c.requires.0.0.1 c.args.p c.requires.0.1 c.requires.1 c.put_front.new.out c.put_front.ensures c.remove_dots-m.new.path _ c.remove_dots-m.result (length c.put_front.new.out - c.args.p.from) refl c.remove_dots-m.ensures refl, path_short c.args.base.now c.args.out.now c.args.start c.requires.0.0.0 c.requires.0.0.1 c.args.p c.requires.0.1 c.requires.1 c.put_front.new.out c.put_front.ensures c.remove_dots-m.new.path _ c.remove_dots-m.result (length c.put_front.new.out - c.args.p.from) refl c.remove_dots-m.ensures refl)

pub overflow_add-result-2 : goal.overflow_add-result-2
overflow_add-result-2 c = let f = plan_facts c.args.base.now (drop c.args.start c.args.out.now) c.requires.0.0.0 c.args.p c.requires.0.1 in let l = length-drop c.args.start c.args.out.now in omega (arith, end_fits c.args.base.now c.args.out.now c.args.start c.requires.0.0.0 c.requires.0.0.1 c.args.p c.requires.0.1 c.requires.1 c.put_front.new.out c.put_front.ensures, front_size c.args.base.now c.args.out.now c.args.start c.requires.0.0.0 c.requires.0.0.1 c.args.p c.requires.0.1 c.requires.1 c.put_front.new.out c.put_front.ensures, path_size c.args.base.now c.args.out.now c.args.start c.requires.0.0.0 c.requires.0.0.1 c.args.p c.requires.0.1 c.requires.1 c.put_front.new.out c.put_front.ensures c.remove_dots-m.new.path _ c.remove_dots-m.result (length c.put_front.new.out - c.args.p.from) refl c.remove_dots-m.ensures refl, path_short c.args.base.now c.args.out.now c.args.start c.requires.0.0.0 c.requires.0.0.1 c.args.p c.requires.0.1 c.requires.1 c.put_front.new.out c.put_front.ensures c.remove_dots-m.new.path _ c.remove_dots-m.result (length c.put_front.new.out - c.args.p.from) refl c.remove_dots-m.ensures refl)

pub returns : goal.returns
returns c = whole_put c.args.base.now c.args.out.now c.args.start c.requires.0.0.0 c.requires.0.0.1 c.args.p c.requires.0.1 c.requires.1 c.put_front.new.out c.put_front.ensures c.remove_dots-m.new.path _ c.remove_dots-m.result (length c.put_front.new.out - c.args.p.from) refl c.remove_dots-m.ensures refl _ _ _ refl refl c.move_left.ensures
