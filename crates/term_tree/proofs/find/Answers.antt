use native.Mathlib.Omega.{arith}
use Rattle.terms.specs.Sorts.{text_in, type_of}
use Rattle.term_tree.specs.Holds.{Finds}
use Rattle.term_tree.specs.Tree.{buckets, Vacant, InSlots}
use Rattle.term_tree.proofs.Trees.{least_left, min_least}
use Rattle.term_tree.proofs.Indexes.{found_number, rest_number, followed, found_behind}
use Rattle.term_tree.proofs.find.Goals as goal

pub returns-in-Ok : goal.returns-in-Ok
returns-in-Ok c = ((λ ts t H M f. found_number H.keeps c.args.sought.now.sort (text_in c.args.sought.now) c.args.sought.now.tag.now t M f c.in-Ok.number c.in-Ok.ensures.1 (omega (arith, (followed H.keeps c.args.sought.now.sort (text_in c.args.sought.now) c.args.sought.now.tag.now t M f c.args.index.now c.in-Ok.number H.indexed c.in-Ok.ensures.0).within, least_left c.args.counts.terms (buckets c.args.index.now))) ((followed H.keeps c.args.sought.now.sort (text_in c.args.sought.now) c.args.sought.now.tag.now t M f c.args.index.now c.in-Ok.number H.indexed c.in-Ok.ensures.0).found c.in-Ok.ensures.1)), c.in-Ok.ensures.1)

pub returns-in-Err : goal.returns-in-Err
returns-in-Err c = found_behind (Finds c.args.terms.now c.args.store.now c.args.index.now c.args.counts c.args.sought.now.sort (text_in c.args.sought.now) c.args.sought.now.tag.now) (λ s. Vacant c.args.index.now (text_in c.args.sought.now) c.args.sought.now.tag.now (type_of c.args.sought.now.sort) s × InSlots c.args.index.now s) c.find_from.result c.in-Err.slot c.ok_or.result c.ok_or.ensures.value (λ ts t H M f. rest_number H.keeps c.args.sought.now.sort (text_in c.args.sought.now) c.args.sought.now.tag.now t M f c.min-from.result _ (omega (arith, c.min-from.ensures)) (λ i l. (followed H.keeps c.args.sought.now.sort (text_in c.args.sought.now) c.args.sought.now.tag.now t M f c.args.index.now 0 H.indexed c.in-Err.ensures.0).absent (omega arith) i (omega (arith, c.min-from.ensures, min_least c.args.counts.terms (buckets c.args.index.now)))) c.find_from.ensures.0) c.find_from.ensures.1 c.in-Err.ensures.1
