pub mod WeightLaws
pub mod FoldLaws
pub mod LeafLaws
pub mod RowLaws
