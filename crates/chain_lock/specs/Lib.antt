pub mod Lists
pub mod Known
pub mod Rule
pub mod Words
pub mod Laws
