mod Lists
mod Named
