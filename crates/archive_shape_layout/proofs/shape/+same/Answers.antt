use Rattle.std.proofs.Common.{rules}
use Rattle.archive_shape_layout.proofs.shape.+same.Goals as goal

pub same_pointee-returns-in-Sized-Sized : goal.same_pointee-returns-in-Sized-Sized
same_pointee-returns-in-Sized-Sized t c = search rules

pub same_pointee-returns-in-Slice-Slice : goal.same_pointee-returns-in-Slice-Slice
same_pointee-returns-in-Slice-Slice t c = search rules

pub same_pointee-returns-in-Text-Text : goal.same_pointee-returns-in-Text-Text
same_pointee-returns-in-Text-Text t c = search rules

pub same_pointee-returns-in_default : goal.same_pointee-returns-in_default
same_pointee-returns-in_default t c = search rules

pub same_pointee-returns-in_default-2 : goal.same_pointee-returns-in_default-2
same_pointee-returns-in_default-2 t c = search rules

pub same_pointee-returns-in_default-3 : goal.same_pointee-returns-in_default-3
same_pointee-returns-in_default-3 t c = search rules

pub same_shape-returns-then-eq : goal.same_shape-returns-then-eq
same_shape-returns-then-eq t c = search rules

pub same_shape-returns-else-eq : goal.same_shape-returns-else-eq
same_shape-returns-else-eq t c = search rules

pub same_shape-returns-then-eq-2 : goal.same_shape-returns-then-eq-2
same_shape-returns-then-eq-2 t c = search rules

pub same_shape-returns-else-eq-2 : goal.same_shape-returns-else-eq-2
same_shape-returns-else-eq-2 t c = search rules

pub same_shape-returns-in-Truth-Truth : goal.same_shape-returns-in-Truth-Truth
same_shape-returns-in-Truth-Truth t c = search rules

pub same_shape-returns-in-Character-Character : goal.same_shape-returns-in-Character-Character
same_shape-returns-in-Character-Character t c = search rules

pub same_shape-returns-in-Text-Text : goal.same_shape-returns-in-Text-Text
same_shape-returns-in-Text-Text t c = search rules

pub same_shape-returns-in-Tuple-Tuple : goal.same_shape-returns-in-Tuple-Tuple
same_shape-returns-in-Tuple-Tuple t c = search rules

pub same_shape-returns-then-n-m : goal.same_shape-returns-then-n-m
same_shape-returns-then-n-m t c = search rules

pub same_shape-returns-else-n-m : goal.same_shape-returns-else-n-m
same_shape-returns-else-n-m t c = search rules

pub same_shape-returns-in-Option-Option : goal.same_shape-returns-in-Option-Option
same_shape-returns-in-Option-Option t c = search rules

pub same_shape-returns-then-same_shape : goal.same_shape-returns-then-same_shape
same_shape-returns-then-same_shape t c = search rules

pub same_shape-returns-else-same_shape : goal.same_shape-returns-else-same_shape
same_shape-returns-else-same_shape t c = search rules

pub same_shape-returns-in-Choice-Choice : goal.same_shape-returns-in-Choice-Choice
same_shape-returns-in-Choice-Choice t c = search rules

pub same_shape-returns-in-Boxed-Boxed : goal.same_shape-returns-in-Boxed-Boxed
same_shape-returns-in-Boxed-Boxed t c = search rules

pub same_shape-returns-in-Vector-Vector : goal.same_shape-returns-in-Vector-Vector
same_shape-returns-in-Vector-Vector t c = search rules

pub same_shape-returns-then-n-m-2 : goal.same_shape-returns-then-n-m-2
same_shape-returns-then-n-m-2 t c = search rules

pub same_shape-returns-else-n-m-2 : goal.same_shape-returns-else-n-m-2
same_shape-returns-else-n-m-2 t c = search rules

pub same_shape-returns-then-c-d : goal.same_shape-returns-then-c-d
same_shape-returns-then-c-d t c = search rules

pub same_shape-returns-else-c-d : goal.same_shape-returns-else-c-d
same_shape-returns-else-c-d t c = search rules

pub same_shape-returns-then-same_shape-2 : goal.same_shape-returns-then-same_shape-2
same_shape-returns-then-same_shape-2 t c = search rules

pub same_shape-returns-else-same_shape-2 : goal.same_shape-returns-else-same_shape-2
same_shape-returns-else-same_shape-2 t c = search rules

pub same_shape-returns-in-Table-Table : goal.same_shape-returns-in-Table-Table
same_shape-returns-in-Table-Table t c = search rules

pub same_shape-returns-then-same_shape-3 : goal.same_shape-returns-then-same_shape-3
same_shape-returns-then-same_shape-3 t c = search rules

pub same_shape-returns-else-same_shape-3 : goal.same_shape-returns-else-same_shape-3
same_shape-returns-else-same_shape-3 t c = search rules

pub same_shape-returns-then-a-c : goal.same_shape-returns-then-a-c
same_shape-returns-then-a-c t c = search rules

pub same_shape-returns-else-a-c : goal.same_shape-returns-else-a-c
same_shape-returns-else-a-c t c = search rules

pub same_shape-returns-in_default : goal.same_shape-returns-in_default
same_shape-returns-in_default t c = search rules

pub same_shape-returns-in_default-2 : goal.same_shape-returns-in_default-2
same_shape-returns-in_default-2 t c = search rules

pub same_shape-returns-in_default-3 : goal.same_shape-returns-in_default-3
same_shape-returns-in_default-3 t c = search rules

pub same_shape-returns-in_default-4 : goal.same_shape-returns-in_default-4
same_shape-returns-in_default-4 t c = search rules

pub same_shape-returns-in_default-5 : goal.same_shape-returns-in_default-5
same_shape-returns-in_default-5 t c = search rules

pub same_shape-returns-in_default-6 : goal.same_shape-returns-in_default-6
same_shape-returns-in_default-6 t c = search rules

pub same_shape-returns-in_default-7 : goal.same_shape-returns-in_default-7
same_shape-returns-in_default-7 t c = search rules

pub same_shape-returns-in_default-8 : goal.same_shape-returns-in_default-8
same_shape-returns-in_default-8 t c = search rules

pub same_shape-returns-in_default-9 : goal.same_shape-returns-in_default-9
same_shape-returns-in_default-9 t c = search rules

pub same_shape-returns-in_default-10 : goal.same_shape-returns-in_default-10
same_shape-returns-in_default-10 t c = search rules

pub same_shape-returns-in_default-11 : goal.same_shape-returns-in_default-11
same_shape-returns-in_default-11 t c = search rules

pub same_shape-returns-in_default-12 : goal.same_shape-returns-in_default-12
same_shape-returns-in_default-12 t c = search rules

pub same_shape-returns-in_default-13 : goal.same_shape-returns-in_default-13
same_shape-returns-in_default-13 t c = search rules

pub same_shape-returns-in_default-14 : goal.same_shape-returns-in_default-14
same_shape-returns-in_default-14 t c = search rules

pub same_shape-returns-in_default-15 : goal.same_shape-returns-in_default-15
same_shape-returns-in_default-15 t c = search rules

pub same_shape-returns-in_default-16 : goal.same_shape-returns-in_default-16
same_shape-returns-in_default-16 t c = search rules

pub same_shape-returns-in_default-17 : goal.same_shape-returns-in_default-17
same_shape-returns-in_default-17 t c = search rules

pub same_shape-returns-in_default-18 : goal.same_shape-returns-in_default-18
same_shape-returns-in_default-18 t c = search rules

pub same_shapes-returns-in-Empty-Empty : goal.same_shapes-returns-in-Empty-Empty
same_shapes-returns-in-Empty-Empty t c = search rules

pub same_shapes-returns-then-same_shape : goal.same_shapes-returns-then-same_shape
same_shapes-returns-then-same_shape t c = search rules

pub same_shapes-returns-else-same_shape : goal.same_shapes-returns-else-same_shape
same_shapes-returns-else-same_shape t c = search rules

pub same_shapes-returns-in_default : goal.same_shapes-returns-in_default
same_shapes-returns-in_default t c = search rules

pub same_shapes-returns-in_default-2 : goal.same_shapes-returns-in_default-2
same_shapes-returns-in_default-2 t c = search rules
