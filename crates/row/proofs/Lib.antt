pub mod ListLaws
pub mod NumberLaws
pub mod ElementLaws
pub mod ProductLaws
pub mod ValueLaws
pub mod SumLaws
