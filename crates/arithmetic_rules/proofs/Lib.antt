pub mod ArithmeticLaws
